-- The last text that was found, and what takes it.
use Rattle.std.proofs.Common.{◌≡◌, ℕ, ℤ, pos, negsuc, neg_ℤ, zero, suc, ◌+◌, ◌-◌, List, [], ◌∷◌, ◌++◌, length}
use Rattle.std.proofs.Common.{take, drop, not, refl, sym, subst, ap, ◌∙◌, arith, Option, Some, None}
use Rattle.std.proofs.lemmas.List.{append_assoc, drop_at, length-append, take_at}
use Rattle.std.specs.Prelude.{Bool, true, false, Result, Ok, if◌then◌else◌, nat_le, ok_or}
use Rattle.teco_base.specs.Results.{◌>>=◌}
use Rattle.teco_base.specs.Text.{text_after_deletion}
use Rattle.teco_base.specs.declared.code.Code.{Code}
use Rattle.teco_base.specs.declared.code.Code.TheVariants as code
use Rattle.teco_changes.specs.Changes.{Changes}
use Rattle.teco_changes.specs.Nearby.{JustFound, last_begin}
use Rattle.teco_changes.specs.Plain.{matches_have}
use Rattle.teco_changes.specs.declared.change.Change.{Change}
use Rattle.teco_changes.specs.declared.change.Change.TheVariants as change
use Rattle.teco_changes.proofs.Elements.{bound, ok_is, one_change, passed}
use Rattle.teco_changes.proofs.Matches.{match_is_some}
use Rattle.teco_changes.proofs.Plainly.{as_many}
use Rattle.teco_changes.proofs.Replaced.{IsFoundAt}
use Rattle.teco_model.specs.Condition.{is_zero}
use Rattle.teco_model.specs.Deletion.{character_deletion, deletion_between, part_deletion}
use Rattle.teco_model.specs.Effect.{Effect}
use Rattle.teco_model.specs.Pattern.{Pattern}
use Rattle.teco_model.specs.Places.{part_named, place_in, span_between}
use Rattle.teco_model.specs.Search.{kept_at, pattern_of}
use Rattle.teco_model.specs.State.{Kept}
use Rattle.teco_model.specs.declared.pattern.Span.{Span}

-- a search that finds leaves what it found before the pointer
pub just_found : (wanted : List ℕ) (kept : Kept) (p : Pattern) (span : Span) → IsFoundAt p kept.text span
    → pattern_of wanted kept ≡ Ok p → JustFound wanted (kept_at span kept)
just_found wanted kept p span found says = record {
  front = take span.start kept.text;
  piece = found.piece;
  back = found.rest;
  is = found.is;
  ends = found.ends ∙ ap (λ n. n + length found.piece) (sym found.starts);
  long = let e = found.ends in omega arith;
  matches = record {
    exact = not (is_zero kept.mode);
    registers = kept.registers;
    said = p;
    behind = found.rest;
    says = says;
    some = found.some;
    leaves = found.leaves;
  };
}

module _ (wanted : List ℕ) (kept : Kept) (last : JustFound wanted kept) where
  abbrev Takes : Effect → Type 0
  Takes effect = Changes (change.TakesMatch wanted ∷ []) kept.text effect.kept.text

  front_is : (a : ℕ) → a ≡ length last.front → take a kept.text ≡ last.front
  front_is a is =
      ap (λ l. take a l) last.is ∙ take_at last.front (last.piece ++ last.back) a (sym is)

  back_is : drop kept.pointer kept.text ≡ last.back
  back_is =
      ap (λ l. drop kept.pointer l) (last.is ∙ sym (append_assoc last.front last.piece last.back))
      ∙ drop_at (last.front ++ last.piece) last.back kept.pointer
      (length-append last.front last.piece ∙ sym last.ends)

  taken : (a : ℕ) (effect : Effect) → a ≡ length last.front → deletion_between a kept.pointer kept ≡ effect
      → Takes effect
  taken a effect is same = one_change (change.TakesMatch wanted) kept.text effect.kept.text (record {
    front = last.front;
    taken = last.piece;
    put = [];
    back = last.back;
    old_is = last.is;
    new_is =
        sym (ap (λ e. e.kept.text) same)
        ∙ ap (λ l. l ++ drop kept.pointer kept.text) (front_is a is)
        ∙ ap (λ l. last.front ++ l) back_is;
    takes = last.matches;
    puts = refl;
  })

  -- by as many characters before the pointer
  pub by_number : (n : ℕ) (effect : Effect) → length last.piece ≡ suc n
      → character_deletion (negsuc n) kept ≡ Ok effect → Takes effect
  by_number n effect long h =
      let ends = last.ends in
      taken (kept.pointer - suc n) effect (omega arith)
      (passed (nat_le (suc n) kept.pointer) (deletion_between (kept.pointer - suc n) kept.pointer kept) effect _ h)

  pub by_known : (n : ℕ) (effect : Effect) → matches_have (suc n) wanted ≡ true
      → character_deletion (negsuc n) kept ≡ Ok effect → Takes effect
  by_known n effect many h = by_number n effect (as_many (suc n) wanted last.piece many last.matches) h

  -- by its length
  no_match : (piece : List ℕ) → length piece ≡ 0 → piece ≡ []
  no_match [] none = refl
  no_match (b ∷ piece) none = absurd (omega arith)

  by_long : (m : ℕ) (effect : Effect) → m ≡ length last.piece → character_deletion (neg_ℤ (pos m)) kept ≡ Ok effect
      → Takes effect
  by_long zero effect long h =
      absurd (match_is_some wanted last.piece last.matches (no_match last.piece (sym long)))
  by_long (suc n) effect long h = by_number n effect (sym long) h

  pub by_length : (effect : Effect) → character_deletion (neg_ℤ (pos kept.last_length)) kept ≡ Ok effect
      → Takes effect
  by_length effect h = by_long kept.last_length effect last.long h

  -- by its place
  place_is : (t : Bool) (n m : ℕ) → ok_or (if t then Some n else None) code.Pop ≡ Ok m
      → n ≡ m
  place_is true n m h = cc
  place_is false n m h = absurd cc

  pub by_place : (effect : Effect) → last_begin kept ≡ pos (length last.front)
      → part_deletion (Some (last_begin kept)) (Some (pos kept.pointer)) kept ≡ Ok effect → Takes effect
  by_place effect begins h =
      let front : ℕ = length last.front in
      let there : part_deletion (Some (pos front)) (Some (pos kept.pointer)) kept ≡ Ok effect =
      subst (λ m. part_deletion (Some m) (Some (pos kept.pointer)) kept ≡ Ok effect) begins h in
      let a : Result ℕ Code = ok_or (place_in kept.text (pos front)) code.Pop in
      let b : Result ℕ Code = ok_or (place_in kept.text (pos kept.pointer)) code.Pop in
      let part = bound (part_named (Some (pos front)) (Some (pos kept.pointer)) kept)
      (λ p. Ok (deletion_between p.start p.end kept)) effect there in
      let from = bound a (λ x. b >>= (λ y. Ok (span_between x y))) part.value part.was in
      let to = bound b (λ y. Ok (span_between from.value y)) part.value from.gives in
      let begin : front ≡ from.value = place_is (nat_le front (length kept.text)) front from.value from.was in
      let end : kept.pointer ≡ to.value =
      place_is (nat_le kept.pointer (length kept.text)) kept.pointer to.value to.was in
      let span : span_between from.value to.value ≡ part.value = ok_is _ part.value to.gives in
      let ends = last.ends in
      let start : part.value.start ≡ front = ap (λ s. s.start) (sym span) ∙ omega arith in
      let stop : part.value.end ≡ kept.pointer = ap (λ s. s.end) (sym span) ∙ omega arith in
      taken part.value.start effect start
      (subst (λ e. deletion_between part.value.start e kept ≡ effect) stop
      (ok_is (deletion_between part.value.start part.value.end kept) effect part.gives))
