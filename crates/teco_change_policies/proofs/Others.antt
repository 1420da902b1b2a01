-- Lines that stay as they are: those without a match of what is looked for.
use Rattle.std.proofs.Common.{◌≡◌, ◌≢◌, ◌⊎◌, inl, inr, ℕ, List, [], ◌∷◌, ◌++◌, Bool, true, false, cond, not, refl, sym}
use Rattle.std.proofs.Common.{subst, ap, ◌∙◌}
use Rattle.std.proofs.lemmas.List.{append-nil}
use Rattle.std.proofs.lemmas.List.Elements.{All-head, All-tail, filter-append}
use Rattle.std.specs.List.{AllZip}
use Rattle.teco_base.specs.Bytes.{is_line_end}
use Rattle.teco_changes.specs.Changes.{IsChange}
use Rattle.teco_change_policies.specs.Laws.{IsWithinLine, KeepsLineEnds, all_lines, ends_within_line}
use Rattle.teco_changes.specs.declared.change.Change.{Change}
use Rattle.teco_change_policies.proofs.LineEnds.{around, some_lines}
use Rattle.teco_policy.specs.Lines.{EndAlike, body, in_first, line_end, lines}

abbrev last : Bool → List (List ℕ)
last true = []
last false = [] ∷ []

all_lines_last : (b : ℕ) (t : Bool) → is_line_end b ≡ t
    → all_lines (b ∷ []) ≡ lines (b ∷ []) ++ last (ends_within_line (b ∷ []))
all_lines_last b true e =
    ap (λ t. cond t ((b ∷ []) ∷ [] ∷ []) ((b ∷ []) ∷ [])) e
    ∙ sym (ap (λ t. cond t ((b ∷ []) ∷ []) ((b ∷ []) ∷ []) ++ last (not t)) e)
all_lines_last b false e =
    ap (λ t. cond t ((b ∷ []) ∷ [] ∷ []) ((b ∷ []) ∷ [])) e
    ∙ sym (ap (λ t. cond t ((b ∷ []) ∷ []) ((b ∷ []) ∷ []) ++ last (not t)) e)

in_first_of : (b : ℕ) (some more : List (List ℕ)) → some ≢ [] → in_first b (some ++ more) ≡ in_first b some ++ more
in_first_of b [] more is = absurd (is refl)
in_first_of b (line ∷ some) more is = refl

all_lines_more : (b c : ℕ) (text : List ℕ) (t : Bool) → is_line_end b ≡ t
    → all_lines (c ∷ text) ≡ lines (c ∷ text) ++ last (ends_within_line (c ∷ text))
    → all_lines (b ∷ c ∷ text) ≡ lines (b ∷ c ∷ text) ++ last (ends_within_line (b ∷ c ∷ text))
all_lines_more b c text true e h =
    ap (λ t. cond t ((b ∷ []) ∷ all_lines (c ∷ text)) (in_first b (all_lines (c ∷ text)))) e
    ∙ ap (λ l. (b ∷ []) ∷ l) h
    ∙ sym (ap (λ t. cond t ((b ∷ []) ∷ lines (c ∷ text)) (in_first b (lines (c ∷ text)))
    ++ last (ends_within_line (c ∷ text))) e)
all_lines_more b c text false e h =
    ap (λ t. cond t ((b ∷ []) ∷ all_lines (c ∷ text)) (in_first b (all_lines (c ∷ text)))) e
    ∙ ap (in_first b) h
    ∙ in_first_of b (lines (c ∷ text)) (last (ends_within_line (c ∷ text))) (some_lines c text)
    ∙ sym (ap (λ t. cond t ((b ∷ []) ∷ lines (c ∷ text)) (in_first b (lines (c ∷ text)))
    ++ last (ends_within_line (c ∷ text))) e)

all_lines_is : (text : List ℕ) → all_lines text ≡ lines text ++ last (ends_within_line text)
all_lines_is [] = refl
all_lines_is (b ∷ []) = all_lines_last b (is_line_end b) refl
all_lines_is (b ∷ c ∷ text) = all_lines_more b c text (is_line_end b) refl (all_lines_is (c ∷ text))

-- the first line, and the others
record HasFirst (text : List ℕ) : Type 0 where
  first : List ℕ
  others : List (List ℕ)
  is : all_lines text ≡ first ∷ others

first_with : (b : ℕ) (text : List ℕ) (t : Bool) → is_line_end b ≡ t → HasFirst text → HasFirst (b ∷ text)
first_with b text true e h = record {
  first = b ∷ [];
  others = all_lines text;
  is = ap (λ t. cond t ((b ∷ []) ∷ all_lines text) (in_first b (all_lines text))) e;
}
first_with b text false e h = record {
  first = b ∷ h.first;
  others = h.others;
  is = ap (λ t. cond t ((b ∷ []) ∷ all_lines text) (in_first b (all_lines text))) e ∙ ap (in_first b) h.is;
}

has_first : (text : List ℕ) → HasFirst text
has_first [] = record { first = []; others = []; is = refl }
has_first (b ∷ text) = first_with b text (is_line_end b) refl (has_first text)

-- a piece of one line stands in the first line
before : (piece back first : List ℕ) (others : List (List ℕ)) → IsWithinLine piece → all_lines back ≡ first ∷ others
    → all_lines (piece ++ back) ≡ (piece ++ first) ∷ others
before [] back first others each e = e
before (b ∷ piece) back first others each e =
    ap (λ t. cond t ((b ∷ []) ∷ all_lines (piece ++ back)) (in_first b (all_lines (piece ++ back))))
    (All-head (λ x. is_line_end x ≡ false) b piece each)
    ∙ ap (in_first b) (before piece back first others (All-tail (λ x. is_line_end x ≡ false) b piece each) e)

stays_whole : (piece : List ℕ) → IsWithinLine piece → body piece ≡ piece
stays_whole [] each = refl
stays_whole (b ∷ piece) each =
    ap (λ t. cond (not t) (b ∷ body piece) (body piece)) (All-head (λ x. is_line_end x ≡ false) b piece each)
    ∙ ap (λ l. b ∷ l) (stays_whole piece (All-tail (λ x. is_line_end x ≡ false) b piece each))

body_behind : (piece line : List ℕ) → IsWithinLine piece → body (piece ++ line) ≡ piece ++ body line
body_behind piece line each =
    filter-append (λ b. not (is_line_end b)) piece line ∙ ap (λ l. l ++ body line) (stays_whole piece each)

-- Where something is found in a text, it is found in a longer one.
module _ (Found : List ℕ → Type 0) (later : (b : ℕ) (text : List ℕ) → Found text → Found (b ∷ text)) where
  abbrev pub Alike : List ℕ → List ℕ → Type 0
  Alike old new = EndAlike old new × ((old ≡ new) ⊎ Found (body old))

  itself : (line : List ℕ) → Alike line line
  itself line = (refl, inl refl)

  joins : (a b c : List ℕ) → Alike a b → Alike b c → Alike a c
  joins a b c h g = (
    h.0 ∙ g.0,
    elim h.1 [
      | inl same ↦ elim g.1 [
        | inl other ↦ inl (same ∙ other)
        | inr found ↦ inr (subst (λ l. Found (body l)) (sym same) found)
      ]
      | inr found ↦ inr found
    ],
  )

  each_itself : (text : List (List ℕ)) → AllZip Alike text text
  each_itself [] = tt
  each_itself (line ∷ text) = (itself line, each_itself text)

  each_joins : (a b c : List (List ℕ)) → AllZip Alike a b → AllZip Alike b c → AllZip Alike a c
  each_joins [] [] [] h g = tt
  each_joins [] [] (z ∷ c) h g = absurd g
  each_joins [] (y ∷ b) c h g = absurd h
  each_joins (x ∷ a) [] c h g = absurd h
  each_joins (x ∷ a) (y ∷ b) [] h g = absurd g
  each_joins (x ∷ a) (y ∷ b) (z ∷ c) h g = (joins x y z h.0 g.0, each_joins a b c h.1 g.1)

  -- with a character in front
  one_more : (b : ℕ) → is_line_end b ≡ false → (old new : List ℕ) → Alike old new → Alike (b ∷ old) (b ∷ new)
  one_more b e old new h =
      let stays : (line : List ℕ) → line_end (b ∷ line) ≡ line_end line =
      λ line. ap (λ t. cond t (b ∷ line_end line) (line_end line)) e in
      let stands : b ∷ body old ≡ body (b ∷ old) =
      sym (ap (λ t. cond (not t) (b ∷ body old) (body old)) e) in (
        stays old ∙ h.0 ∙ sym (stays new),
        elim h.1 [
          | inl same ↦ inl (ap (λ l. b ∷ l) same)
          | inr found ↦ inr (subst Found stands (later b (body old) found))
        ],
      )

  in_front : (b : ℕ) → is_line_end b ≡ false → (old new : List (List ℕ)) → AllZip Alike old new
      → AllZip Alike (in_first b old) (in_first b new)
  in_front b e [] [] h = (itself (b ∷ []), tt)
  in_front b e [] (y ∷ new) h = absurd h
  in_front b e (x ∷ old) [] h = absurd h
  in_front b e (x ∷ old) (y ∷ new) h = (one_more b e x y h.0, h.1)

  one_behind : (b : ℕ) (t : Bool) → is_line_end b ≡ t → (old new : List ℕ)
      → AllZip Alike (all_lines old) (all_lines new)
      → AllZip Alike (all_lines (b ∷ old)) (all_lines (b ∷ new))
  one_behind b true e old new h =
      subst (λ t. AllZip Alike (cond t ((b ∷ []) ∷ all_lines old) (in_first b (all_lines old)))
      (cond t ((b ∷ []) ∷ all_lines new) (in_first b (all_lines new)))) (sym e) (itself (b ∷ []), h)
  one_behind b false e old new h =
      subst (λ t. AllZip Alike (cond t ((b ∷ []) ∷ all_lines old) (in_first b (all_lines old)))
      (cond t ((b ∷ []) ∷ all_lines new) (in_first b (all_lines new)))) (sym e)
      (in_front b e (all_lines old) (all_lines new) h)

  behind : (front old new : List ℕ) → AllZip Alike (all_lines old) (all_lines new)
      → AllZip Alike (all_lines (front ++ old)) (all_lines (front ++ new))
  behind [] old new h = h
  behind (b ∷ front) old new h =
      one_behind b (is_line_end b) refl (front ++ old) (front ++ new) (behind front old new h)

  -- a piece that is found goes, and another comes
  at_piece : (taken put back : List ℕ) → IsWithinLine taken → IsWithinLine put
      → ((more : List ℕ) → Found (taken ++ more)) → AllZip Alike (all_lines (taken ++ back)) (all_lines (put ++ back))
  at_piece taken put back from into found =
      let h = has_first back in
      let alike : Alike (taken ++ h.first) (put ++ h.first) = (
        around [] taken h.first from ∙ sym (around [] put h.first into),
        inr (subst Found (sym (body_behind taken h.first from)) (found (body h.first))),
      ) in
      let all : AllZip Alike ((taken ++ h.first) ∷ h.others) ((put ++ h.first) ∷ h.others) =
      (alike, each_itself h.others) in
      subst (λ l. AllZip Alike l (all_lines (put ++ back))) (sym (before taken back h.first h.others from h.is))
      (subst (λ l. AllZip Alike ((taken ++ h.first) ∷ h.others) l)
      (sym (before put back h.first h.others into h.is)) all)

  abbrev pub Stay : List ℕ → List ℕ → Type 0
  Stay old new = AllZip Alike (all_lines old) (all_lines new)

  pub stay_itself : (text : List ℕ) → Stay text text
  stay_itself text = each_itself (all_lines text)

  pub stay_joins : (a b c : List ℕ) → Stay a b → Stay b c → Stay a c
  stay_joins a b c h g = each_joins (all_lines a) (all_lines b) (all_lines c) h g

  pub others_stay : (change : Change) (old new : List ℕ) → KeepsLineEnds change
      → (h : IsChange change old new) → ((more : List ℕ) → Found (h.taken ++ more)) → Stay old new
  others_stay change old new keeps h found =
      subst (λ l. Stay l new) (sym h.old_is)
      (subst (λ l. Stay (h.front ++ (h.taken ++ h.back)) l) (sym h.new_is)
      (behind h.front (h.taken ++ h.back) (h.put ++ h.back)
      (at_piece h.taken h.put h.back (keeps.0 h.taken h.takes) (keeps.1 h.put h.puts) found)))

  without_last : (old new : List (List ℕ)) (a b : List ℕ) → AllZip Alike (old ++ (a ∷ [])) (new ++ (b ∷ []))
      → AllZip Alike old new
  without_last [] [] a b h = tt
  without_last [] (y ∷ []) a b h = absurd h.1
  without_last [] (y ∷ z ∷ new) a b h = absurd h.1
  without_last (x ∷ []) [] a b h = absurd h.1
  without_last (x ∷ z ∷ old) [] a b h = absurd h.1
  without_last (x ∷ old) (y ∷ new) a b h = (h.0, without_last old new a b h.1)

  bare : (t : Bool) (old new : List (List ℕ)) → AllZip Alike (old ++ last t) (new ++ last t) → AllZip Alike old new
  bare true old new h =
      subst (λ l. AllZip Alike l new) (append-nil old) (subst (λ l. AllZip Alike (old ++ []) l) (append-nil new) h)
  bare false old new h = without_last old new [] [] h

  pub lines_stay : (old new : List ℕ) → ends_within_line old ≡ ends_within_line new → Stay old new
      → AllZip Alike (lines old) (lines new)
  lines_stay old new last_same h =
      bare (ends_within_line old) (lines old) (lines new)
      (subst (λ t. AllZip Alike (lines old ++ last (ends_within_line old)) (lines new ++ last t)) (sym last_same)
      (subst (λ l. AllZip Alike (lines old ++ last (ends_within_line old)) l) (all_lines_is new)
      (subst (λ l. AllZip Alike l (all_lines new)) (all_lines_is old) h)))
