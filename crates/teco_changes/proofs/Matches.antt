-- What a match of a search text is made of.
use Rattle.std.proofs.Common.{◌≡◌, ◌≢◌, ℕ, ◌+◌, ◌≤◌, List, [], ◌∷◌, ◌++◌, length, Bool, true, false}
use Rattle.std.proofs.Common.{cond, not, refl, sym, subst, ap, ◌∙◌, arith}
use Rattle.std.proofs.lemmas.List.{append_assoc, append_cancel_right, length-append}
use Rattle.std.proofs.lemmas.List.Elements.{All-append, All-cons, All-head, All-nil, All-tail}
use Rattle.std.specs.Prelude.{All, Option, Some, None, option_and_then, option_map, ⊤}
use Rattle.teco_changes.specs.Changes.{IsMatch}
use Rattle.teco_model.specs.Match.{is_in, is_space_or_tab, item_rest, match_rest, one_rest, run_rest}
use Rattle.teco_model.specs.declared.pattern.Item.{Item}
use Rattle.teco_model.specs.declared.pattern.Item.TheVariants as item

-- a text is a piece of at least so many such characters, and a rest
pub record IsMade (P : ℕ → Type 0) (n : ℕ) (text rest : List ℕ) : Type 0 where
  pub piece : List ℕ
  pub is : text ≡ piece ++ rest
  pub many : n ≤ length piece
  pub each : All P piece

-- characters pass an item only if they are so
abbrev pub Only : (ℕ → Type 0) → Item → Type 0
Only P (item.Is c) = (b : ℕ) → is_in c b ≡ true → P b
Only P (item.IsNot c) = (b : ℕ) → not (is_in c b) ≡ true → P b
Only P item.Blanks = (b : ℕ) → is_space_or_tab b ≡ true → P b

module _ (P : ℕ → Type 0) where
  no_piece : (text rest : List ℕ) → text ≡ rest → IsMade P 0 text rest
  no_piece text rest e = record { piece = []; is = e; many = omega arith; each = All-nil P }

  one_more : (b : ℕ) (text rest : List ℕ) → P b → IsMade P 0 text rest → IsMade P 1 (b ∷ text) rest
  one_more b text rest h made = record {
    piece = b ∷ made.piece;
    is = ap (λ l. b ∷ l) made.is;
    many = omega arith;
    each = All-cons P b made.piece h made.each;
  }

  fewer : (text rest : List ℕ) → IsMade P 1 text rest → IsMade P 0 text rest
  fewer text rest made = record { piece = made.piece; is = made.is; many = omega arith; each = made.each }

  joined : (n m : ℕ) (text middle rest : List ℕ) → IsMade P n text middle → IsMade P m middle rest
      → IsMade P (n + m) text rest
  joined n m text middle rest x y =
      let long = length-append x.piece y.piece in
      let few = x.many in
      let more = y.many in
      record {
        piece = x.piece ++ y.piece;
        is = x.is ∙ ap (λ l. x.piece ++ l) y.is ∙ sym (append_assoc x.piece y.piece rest);
        many = omega arith;
        each = All-append P x.piece y.piece x.each y.each;
      }

  module _ (passes : ℕ → Bool) (only : (b : ℕ) → passes b ≡ true → P b) where
    one_passes : (t : Bool) (b : ℕ) (text rest : List ℕ) → passes b ≡ t → cond t (Some text) None ≡ Some rest
        → IsMade P 1 (b ∷ text) rest
    one_passes true b text rest e h =
        let same : text ≡ rest = cc in one_more b text rest (only b e) (no_piece text rest same)
    one_passes false b text rest e h = absurd cc

    one_made : (text rest : List ℕ) → one_rest passes text ≡ Some rest → IsMade P 1 text rest
    one_made [] rest h = absurd cc
    one_made (b ∷ text) rest h = one_passes (passes b) b text rest refl h

    run_passes : (t : Bool) (b : ℕ) (text : List ℕ) → passes b ≡ t → IsMade P 0 text (run_rest passes text)
        → IsMade P 0 (b ∷ text) (cond t (run_rest passes text) (b ∷ text))
    run_passes true b text e made =
        fewer (b ∷ text) (run_rest passes text) (one_more b text (run_rest passes text) (only b e) made)
    run_passes false b text e made = no_piece (b ∷ text) (b ∷ text) refl

    run_made : (text : List ℕ) → IsMade P 0 text (run_rest passes text)
    run_made [] = no_piece [] [] refl
    run_made (b ∷ text) = run_passes (passes b) b text refl (run_made text)

    both_made : (first : Option (List ℕ)) (text rest : List ℕ) → one_rest passes text ≡ first
        → option_map (run_rest passes) first ≡ Some rest → IsMade P 1 text rest
    both_made None text rest e h = absurd cc
    both_made (Some behind) text rest e h =
        let same : run_rest passes behind ≡ rest = cc in
        joined 1 0 text behind rest (one_made text behind e)
        (subst (λ l. IsMade P 0 behind l) same (run_made behind))

  item_made : (i : Item) → Only P i → (text rest : List ℕ) → item_rest i text ≡ Some rest → IsMade P 1 text rest
  item_made (item.Is c) only text rest h = one_made (is_in c) only text rest h
  item_made (item.IsNot c) only text rest h = one_made (λ b. not (is_in c b)) only text rest h
  item_made item.Blanks only text rest h =
      both_made is_space_or_tab only (one_rest is_space_or_tab text) text rest refl h

  behind_item : (first : Option (List ℕ)) (i : Item) (items : List Item) (text rest : List ℕ) → Only P i
      → item_rest i text ≡ first
      → ((middle : List ℕ) → match_rest items middle ≡ Some rest → IsMade P (length items) middle rest)
      → option_and_then (match_rest items) first ≡ Some rest → IsMade P (1 + length items) text rest
  behind_item None i items text rest only e others h = absurd cc
  behind_item (Some middle) i items text rest only e others h =
      joined 1 (length items) text middle rest (item_made i only text middle e) (others middle h)

  items_made : (items : List Item) → All (Only P) items → (text rest : List ℕ) → match_rest items text ≡ Some rest
      → IsMade P (length items) text rest
  items_made [] each text rest h =
      let same : text ≡ rest = cc in no_piece text rest same
  items_made (i ∷ items) each text rest h =
      let one : 1 + length items ≡ length (i ∷ items) = omega arith in
      subst (λ n. IsMade P n text rest) one
      (behind_item (item_rest i text) i items text rest (All-head (Only P) i items each) refl
      (λ middle m. items_made items (All-tail (Only P) i items each) middle rest m) h)

  -- what stands before the rest is such a piece
  pub piece_is : (items : List Item) → All (Only P) items → (taken back : List ℕ)
      → match_rest items (taken ++ back) ≡ Some back → All P taken × (length items ≤ length taken)
  piece_is items each taken back h =
      let made = items_made items each (taken ++ back) back h in
      let same : made.piece ≡ taken = sym (append_cancel_right taken made.piece back made.is) in (
        subst (λ l. All P l) same made.each,
        subst (λ l. length items ≤ length l) same made.many,
      )

any : (i : Item) → Only (λ b. ⊤) i
any (item.Is c) = λ b h. tt
any (item.IsNot c) = λ b h. tt
any item.Blanks = λ b h. tt

any_items : (items : List Item) → All (Only (λ b. ⊤)) items
any_items [] = All-nil (Only (λ b. ⊤))
any_items (i ∷ items) = All-cons (Only (λ b. ⊤)) i items (any i) (any_items items)

pub piece_of : (items : List Item) (text rest : List ℕ) → match_rest items text ≡ Some rest
    → IsMade (λ b. ⊤) (length items) text rest
piece_of items text rest h = items_made (λ b. ⊤) items (any_items items) text rest h

some_items : (items : List Item) → items ≢ [] → 1 ≤ length items
some_items [] some = absurd (some refl)
some_items (i ∷ items) some = omega arith

-- a match is not empty
pub match_is_some : (wanted taken : List ℕ) → IsMatch wanted taken → taken ≢ []
match_is_some wanted taken h e =
    let long : length h.said ≤ length taken = (piece_is (λ b. ⊤) h.said (any_items h.said) taken h.behind h.leaves).1 in
    let some = some_items h.said h.some in
    let none : length taken ≡ 0 = ap (λ l. length l) e in
    omega arith
