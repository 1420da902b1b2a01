-- A match that is found, as a piece of the buffer; what stands in its stead.
use Rattle.std.proofs.Common.{◌≡◌, ◌≢◌, ℕ, ℤ, pos, negsuc, zero, suc, ◌+◌, ◌-◌, ◌≤◌, List, [], ◌∷◌, ◌++◌, length}
use Rattle.std.proofs.Common.{take, drop, not, refl, sym, subst, ap, ◌∙◌, arith, Option, Some, None}
use Rattle.std.proofs.lemmas.List.{append_assoc, drop-drop, drop_at, length-append, length-drop, length-take-le}
use Rattle.std.proofs.lemmas.List.{take-append-drop}
use Rattle.std.specs.Prelude.{Ok, nat_le, option_and_then, option_map}
use Rattle.std.specs.Option.{option_or}
use Rattle.teco_base.specs.Results.{◌>>=◌}
use Rattle.teco_model.specs.Condition.{is_zero}
use Rattle.teco_base.specs.Text.{text_after_replacement}
use Rattle.teco_base.specs.declared.TheConstants.{LIMIT}
use Rattle.teco_changes.specs.Changes.{Changes}
use Rattle.teco_changes.specs.Elements.{swapped}
use Rattle.teco_changes.specs.Told.{ReplacementsAreTold}
use Rattle.teco_changes.specs.declared.change.Change.TheVariants as change
use Rattle.teco_changes.proofs.Elements.{bound, one_change, passed}
use Rattle.teco_changes.proofs.Matches.{piece_of}
use Rattle.teco_model.specs.Element.{Element}
use Rattle.teco_model.specs.Match.{first_among, first_from, here, last_before, match_rest, nth_match}
use Rattle.teco_model.specs.Pattern.{Pattern}
use Rattle.teco_model.specs.Search.{Found, count_of, finding_of, match_in_direction, match_of}
use Rattle.teco_model.specs.Search.{pattern_of, replacement, search_text_of, text_or}
use Rattle.teco_model.specs.State.{Kept}
use Rattle.teco_model.specs.declared.kind.Search.TheVariants as search
use Rattle.teco_model.specs.declared.pattern.Item.{Item}
use Rattle.teco_model.specs.declared.pattern.Span.{Span}

-- a match that is found: a piece behind what stands before its start, and before what stands behind its end
pub record IsFoundAt (p : Pattern) (text : List ℕ) (span : Span) : Type 0 where
  pub piece : List ℕ
  pub rest : List ℕ
  pub is : text ≡ take span.start text ++ (piece ++ rest)
  pub behind : drop span.end text ≡ rest
  pub starts : length (take span.start text) ≡ span.start
  pub ends : span.end ≡ span.start + length piece
  pub some : p ≢ []
  pub leaves : match_rest p (piece ++ rest) ≡ Some rest

module _ (i : Item) (items : List Item) (text : List ℕ) (at : ℕ) where
  by_rest : (r : Option (List ℕ)) (span : Span) → match_rest (i ∷ items) (drop at text) ≡ r
      → option_map (λ rest. record { start = at; end = length text - length rest }) r ≡ Some span
      → IsFoundAt (i ∷ items) text span
  by_rest None span e h = absurd cc
  by_rest (Some rest) span e h =
      let same : ◌≡◌ {A = Span} (record { start = at; end = length text - length rest }) span = cc in
      let made = piece_of (i ∷ items) (drop at text) rest e in
      let long : length (drop at text) ≡ length made.piece + length rest =
      ap (λ l. length l) made.is ∙ length-append made.piece rest in
      let left = length-drop at text in
      let many : 1 ≤ length made.piece = let m = made.many in omega arith in
      let end : length text - length rest ≡ at + length made.piece = omega arith in
      subst (λ s. IsFoundAt (i ∷ items) text s) same (record {
        piece = made.piece;
        rest = rest;
        is = sym (take-append-drop at text) ∙ ap (λ l. take at text ++ l) made.is;
        behind = ap (λ n. drop n text) end
            ∙ sym (drop-drop (length made.piece) at text)
            ∙ ap (λ l. drop (length made.piece) l) made.is
            ∙ drop_at made.piece rest (length made.piece) refl;
        starts = length-take-le at text (let m = made.many in omega arith);
        ends = end;
        some = λ e. cc;
        leaves = ap (λ l. match_rest (i ∷ items) l) (sym made.is) ∙ e;
      })

pub found_at : (p : Pattern) (text : List ℕ) (at : ℕ) (span : Span) → here p text at ≡ Some span
    → IsFoundAt p text span
unfolding here
found_at [] text at span h = absurd cc
found_at (i ∷ items) text at span h = by_rest i items text at (match_rest (i ∷ items) (drop at text)) span refl h

-- a search finds a match at some place
pub record IsFound (p : Pattern) (text : List ℕ) (span : Span) : Type 0 where
  pub at : ℕ
  pub here_is : here p text at ≡ Some span

module _ (p : Pattern) (text : List ℕ) where
  either : (first later : Option Span) (at : ℕ) (span : Span) → here p text at ≡ first
      → (later ≡ Some span → IsFound p text span) → option_or first later ≡ Some span → IsFound p text span
  either None later at span e others h = others h
  either (Some s) later at span e others h = record { at = at; here_is = e ∙ h }

  pub among : (at places : ℕ) (span : Span) → first_among p text at places ≡ Some span → IsFound p text span
  among at zero span h = absurd cc
  among at (suc places) span h =
      either (here p text at) (first_among p text (at + 1) places) at span refl (among (at + 1) places span) h

  before : (at : ℕ) (span : Span) → last_before p text at ≡ Some span → IsFound p text span
  before zero span h = absurd cc
  before (suc at) span h = either (here p text at) (last_before p text at) at span refl (before at span) h

  module _ (search : ℕ → Option Span) (onward : Span → ℕ)
      (finds : (at : ℕ) (span : Span) → search at ≡ Some span → IsFound p text span)
    where
      onwards : (n : ℕ) (first : Option Span) (span : Span)
          → ((at : ℕ) → nth_match search onward at (suc n) ≡ Some span → IsFound p text span)
          → option_and_then (λ last. nth_match search onward (onward last) (suc n)) first ≡ Some span
          → IsFound p text span
      onwards n None span later h = absurd cc
      onwards n (Some last) span later h = later (onward last) h

      nth : (n at : ℕ) (span : Span) → nth_match search onward at n ≡ Some span → IsFound p text span
      nth zero at span h = absurd cc
      nth (suc zero) at span h = finds at span h
      nth (suc (suc n)) at span h = onwards n (search at) span (λ from. nth (suc n) from span) h

  in_direction : (at : ℕ) (n : ℤ) (span : Span) → match_in_direction p text at n ≡ Some span → IsFound p text span
  in_direction at (pos n) span h =
      nth (first_from p text) (λ last. last.end) (λ from s. among from (length text - from) s) n at span h
  in_direction at (negsuc n) span h = nth (last_before p text) (λ last. last.start) before (suc n) at span h

  pub matched : (colons : ℕ) (n : ℤ) (at : ℕ) (span : Span) → match_of p colons n text at ≡ Some span
      → IsFound p text span
  matched zero n at span h = in_direction at n span h
  matched (suc zero) n at span h = in_direction at n span h
  matched (suc (suc colons)) n at span h = record { at = at; here_is = h }

module _ (new : List ℕ) (kept : Kept) (p : Pattern) (span : Span) (found : IsFoundAt p kept.text span)
    (after : List ℕ) (is : after ≡ text_after_replacement kept.text span.start span.end new)
  where
    after_is : after ≡ take span.start kept.text ++ (new ++ found.rest)
    after_is =
        is ∙ append_assoc (take span.start kept.text) new (drop span.end kept.text)
        ∙ ap (λ l. take span.start kept.text ++ (new ++ l)) found.behind

    pub swap : (wanted : List ℕ) → pattern_of (text_or wanted kept.search_text) kept ≡ Ok p
        → Changes (swapped wanted new) kept.text after
    swap [] says = (
      2,
      (
        take span.start kept.text ++ found.rest,
        record {
          change = change.TakesAny;
          listed = (0, omega arith, refl);
          does = record {
            front = take span.start kept.text;
            taken = found.piece;
            put = [];
            back = found.rest;
            old_is = found.is;
            new_is = refl;
            takes = tt;
            puts = refl;
          };
        },
        (
          after,
          record {
            change = change.Puts new;
            listed = (1, omega arith, refl);
            does = record {
              front = take span.start kept.text;
              taken = [];
              put = new;
              back = found.rest;
              old_is = refl;
              new_is = after_is;
              takes = refl;
              puts = refl;
            };
          },
          refl,
        ),
      ),
    )
    swap (b ∷ wanted) says = one_change (change.Swaps (b ∷ wanted) new) kept.text after (record {
      front = take span.start kept.text;
      taken = found.piece;
      put = new;
      back = found.rest;
      old_is = found.is;
      new_is = after_is;
      takes = record {
        exact = not (is_zero kept.mode);
        registers = kept.registers;
        said = p;
        behind = found.rest;
        says = says;
        some = found.some;
        leaves = found.leaves;
      };
      puts = refl;
    })

pub replaced_text : (span : Span) (new : List ℕ) (kept after : Kept) → replacement span new kept ≡ Ok after
    → after.text ≡ text_after_replacement kept.text span.start span.end new
replaced_text span new kept after h =
    sym (ap (λ k. k.text)
    (passed (nat_le (length (text_after_replacement kept.text span.start span.end new)) LIMIT) _ after _ h))

by_match : (element : Element) (kept after : Kept) (p : Pattern) (o : Option Span)
    → pattern_of (search_text_of element.text kept) kept ≡ Ok p
    → ((span : Span) → o ≡ Some span → IsFound p kept.text span)
    → finding_of search.Replace element o (record kept { search_text = search_text_of element.text kept })
    ≡ Ok (Found after)
    → Changes (swapped element.text element.second) kept.text after.text
by_match element kept after p None says finds h = absurd cc
by_match element kept after p (Some span) says finds h =
    let looked : Kept = record kept { search_text = search_text_of element.text kept } in
    let done = bound (replacement span element.second looked) (λ k. Ok (Found k)) (Found after) h in
    let same : done.value ≡ after = let e = done.gives in cc in
    let found = finds span refl in
    swap element.second kept p span (found_at p kept.text found.at span found.here_is) after.text
    (replaced_text span element.second looked after
    (subst (λ k. replacement span element.second looked ≡ Ok k) same done.was))
    element.text says

pub replacements_are_told : ReplacementsAreTold
replacements_are_told element taken kept after h =
    let text : List ℕ = search_text_of element.text kept in
    let looked : Kept = record kept { search_text = text } in
    let counted = bound (count_of taken.first taken.value)
    (λ n. pattern_of text kept >>= (λ p. finding_of search.Replace element
    (match_of p element.colons n kept.text kept.pointer) looked)) (Found after) h in
    let read = bound (pattern_of text kept)
    (λ p. finding_of search.Replace element (match_of p element.colons counted.value kept.text kept.pointer) looked)
    (Found after) counted.gives in
    by_match element kept after read.value
    (match_of read.value element.colons counted.value kept.text kept.pointer) read.was
    (matched read.value kept.text element.colons counted.value kept.pointer) read.gives
