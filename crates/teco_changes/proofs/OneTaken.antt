-- A deletion of one character takes the one that stands there.
use Rattle.std.proofs.Common.{◌≡◌, ℕ, pos, negsuc, zero, suc, ◌+◌, ◌-◌, ◌<◌, ◌≤◌, List, [], ◌∷◌, ◌++◌, length, take}
use Rattle.std.proofs.Common.{drop}
use Rattle.std.proofs.Common.{Bool, true, false, cond, refl, sym, subst, ap, ◌∙◌, arith, Option, Some, None}
use Rattle.std.proofs.lemmas.Bool.{leb-true}
use Rattle.std.proofs.lemmas.List.{take-append-drop}
use Rattle.std.specs.Int.{is_in_range}
use Rattle.std.specs.Prelude.{◌||◌, IsTrue, Result, Ok, Err, nat_le, slice_get}
use Rattle.teco_base.specs.declared.code.Code.{Code}
use Rattle.teco_changes.specs.Changes.{Changes}
use Rattle.teco_changes.specs.Characters.{IsWithin, character_before, character_there}
use Rattle.teco_changes.specs.declared.argument.Side.TheVariants.{At, Before}
use Rattle.teco_changes.specs.declared.change.Change.TheVariants as change
use Rattle.teco_changes.specs.declared.change.Range.{Range}
use Rattle.teco_changes.proofs.Elements.{one_change, passed}
use Rattle.teco_model.specs.Deletion.{character_deletion, deletion_between}
use Rattle.teco_model.specs.Effect.{Effect}
use Rattle.teco_model.specs.State.{Kept}

record IsThere (text : List ℕ) (p : ℕ) : Type 0 where
  b : ℕ
  is : slice_get text p ≡ Some b
  splits : drop p text ≡ b ∷ drop (suc p) text

one_there : (text : List ℕ) (p : ℕ) → p < length text → IsThere text p
one_there [] p less = absurd (omega (arith, less))
one_there (c ∷ text) zero less = record { b = c; is = refl; splits = refl }
one_there (c ∷ text) (suc p) less =
    let there = one_there text p (omega (arith, less)) in
    record { b = there.b; is = there.is; splits = there.splits }

or_false : (t : Bool) → t ≡ true → (t || false) ≡ true
or_false true e = refl
or_false false e = absurd cc

passed_test : {X : Type 0} (t : Bool) (x y : X) (c : Code) → cond t (Ok x) (Err c) ≡ Ok y → t ≡ true
passed_test true x y c h = refl
passed_test false x y c h = absurd cc

module _ (kept : Kept) (range : Range) (effect : Effect) where
  abbrev Takes : Type 0
  Takes = Changes (change.Takes (range ∷ []) ∷ []) kept.text effect.kept.text

  taken : (p q : ℕ) → q ≡ suc p → p < length kept.text
      → ((b : ℕ) → slice_get kept.text p ≡ Some b → IsTrue (is_in_range range.first range.last b))
      → deletion_between p q kept ≡ effect → Takes
  taken p q next less within same =
      let there = one_there kept.text p less in
      one_change (change.Takes (range ∷ [])) kept.text effect.kept.text (record {
        front = take p kept.text;
        taken = there.b ∷ [];
        put = [];
        back = drop q kept.text;
        old_is =
            sym (take-append-drop p kept.text)
            ∙ ap (λ l. take p kept.text ++ l)
            (there.splits ∙ ap (λ n. there.b ∷ drop n kept.text) (sym next));
        new_is = sym (ap (λ e. e.kept.text) same);
        takes = (
          there.b,
          refl,
          or_false (is_in_range range.first range.last there.b) (within there.b there.is),
        );
        puts = refl;
      })

pub takes_at : (kept : Kept) (range : Range) → IsWithin (Some range) (character_there At kept) → (effect : Effect)
    → character_deletion (pos 1) kept ≡ Ok effect
    → Changes (change.Takes (range ∷ []) ∷ []) kept.text effect.kept.text
takes_at kept range within effect h =
    let inside = leb-true (kept.pointer + 1) (length kept.text)
    (passed_test (nat_le (kept.pointer + 1) (length kept.text)) _ effect _ h) in
    taken kept range effect kept.pointer (kept.pointer + 1) (omega arith) (omega (arith, inside)) within
    (passed (nat_le (kept.pointer + 1) (length kept.text)) _ effect _ h)

before_of : (text : List ℕ) (n b : ℕ) → 1 ≤ n → slice_get text (n - 1) ≡ Some b → character_before text n ≡ Some b
before_of text zero b some h = absurd (omega (arith, some))
before_of text (suc p) b some h =
    let same : suc p - 1 ≡ p = omega arith in subst (λ k. slice_get text k ≡ Some b) same h

pub takes_before : (kept : Kept) → kept.pointer ≤ length kept.text → (range : Range)
    → IsWithin (Some range) (character_there Before kept) → (effect : Effect)
    → character_deletion (negsuc 0) kept ≡ Ok effect
    → Changes (change.Takes (range ∷ []) ∷ []) kept.text effect.kept.text
takes_before kept inside range within effect h =
    let some = leb-true 1 kept.pointer (passed_test (nat_le 1 kept.pointer) _ effect _ h) in
    taken kept range effect (kept.pointer - 1) kept.pointer (omega (arith, some)) (omega (arith, some, inside))
    (λ b there. within b (before_of kept.text kept.pointer b some there))
    (passed (nat_le 1 kept.pointer) _ effect _ h)
