-- Letters in either case.
use Rattle.std.proofs.Common.{◌≡◌, ◌⊎◌, inl, inr, ℕ, ◌+◌, ◌-◌, List, Bool, true, false, ◌&&◌, cond, not}
use Rattle.std.proofs.Common.{refl, sym, subst, arith, eqb-true}
use Rattle.std.proofs.lemmas.Bool.{ltb-false}
use Rattle.std.specs.Prelude.{IsTrue, nat_lt}
use Rattle.teco_base.specs.Bytes.{is_letter, to_upper}
use Rattle.teco_change_policies.specs.Plain.{IsOfEach}
use Rattle.teco_model.specs.Match.{is_in}
use Rattle.teco_model.specs.declared.pattern.Class.TheVariants as class
use Rattle.teco_policy.specs.Subsequences.{is_one_of}

-- a character whose upper case is n is n, or its lower case
either_case : (s t : Bool) (c n : ℕ) → nat_lt c 97 ≡ s → cond s c (cond t (c - 32) c) ≡ n → (c ≡ n) ⊎ (c ≡ n + 32)
either_case true t c n e h = inl h
either_case false true c n e h = let large = ltb-false c 97 e in inr (omega arith)
either_case false false c n e h = inl h

upper_is : (c n : ℕ) → to_upper c ≡ n → (c ≡ n) ⊎ (c ≡ n + 32)
upper_is c n h = either_case (nat_lt c 97) (nat_lt c 123) c n refl h

module _ (characters : List ℕ) where
  abbrev Has : ℕ → Type 0
  Has c = IsTrue (is_one_of characters c)

  in_either : (t exact : Bool) (b : ℕ) → Has b → (t ≡ true → Has (to_upper b) × Has (to_upper b + 32))
      → (c : ℕ) → IsTrue (is_in (cond (t && not exact) (class.EitherCase (to_upper b)) (class.Literal b)) c) → Has c
  in_either true false b own both c h =
      elim (upper_is c (to_upper b) (eqb-true (to_upper c) (to_upper b) h)) [
        | inl same ↦ subst Has (sym same) (both refl).0
        | inr lower ↦ subst Has (sym lower) (both refl).1
      ]
  in_either true true b own both c h = subst Has (sym (eqb-true c b h)) own
  in_either false exact b own both c h = subst Has (sym (eqb-true c b h)) own

  pub of_either_case : (b : ℕ) → Has b → (is_letter b ≡ true → Has (to_upper b) × Has (to_upper b + 32))
      → IsOfEach characters b
  of_either_case b own both exact c h = in_either (is_letter b) exact b own both c h
