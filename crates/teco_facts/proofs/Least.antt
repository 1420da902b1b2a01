-- Falls by the numbers that they are kept as.
use Rattle.teco_facts.proofs.Prelude.{◌≡◌, refl, subst, List, [], ◌∷◌, length, get_or, zero, suc, ◌+◌, ◌<◌, ℤ, ◌+ℤ◌}
use Rattle.teco_facts.proofs.Prelude.{◌≤ℤ◌, ◌<ℤ◌, ℕ, Option, Some, None, true, false, arith, ints, fall_after, unknown}
use Rattle.teco_facts.proofs.Prelude.{IsSmallFall}
use Rattle.std.proofs.Common.{int_lt}
use Rattle.std.proofs.lemmas.Int.{by_lt_z}
use Rattle.teco_facts.specs.Least.{known, kept}
use Rattle.teco_facts.specs.Numbers.{IsModest}

-- one that is known, and one that is not
pub some_known : (v : ℤ) → unknown <ℤ v → known v ≡ Some v
unfolding known
some_known v h = let e : int_lt unknown v ≡ true = grind (arith, ints) in rw e refl

pub none_known : (v : ℤ) → v ≤ℤ unknown → known v ≡ None
unfolding known
none_known v h = let e : int_lt unknown v ≡ false = grind (arith, ints) in rw e refl

pub kept_known : (v : ℤ) → unknown ≤ℤ v → kept (known v) ≡ v
kept_known v h =
    by_lt_z unknown v (λ above. rw (some_known v above) refl) (λ below. rw (none_known v below) (omega (arith, ints)))

-- one behind another
pub after_known : (v w x : ℤ) → unknown <ℤ v → x ≡ v +ℤ w → unknown <ℤ x → known x ≡ fall_after (Some w) (known v)
after_known v w x a e more = rw (some_known v a, some_known x more, e) refl

-- one to which more may be added
pub small_known : (v : ℤ) → unknown <ℤ v → IsSmallFall (known v) → IsModest v
small_known v a small = rw (some_known v a) at small

pub none_small : (v : ℤ) → v ≤ℤ unknown → IsSmallFall (known v)
none_small v a = rw (none_known v a) tt

-- one more of a list
pub small_more : (xs : List (Option ℤ)) (i : ℕ) (x : Option ℤ) → i < length xs
    → ((k : ℕ) (d : Option ℤ) → k < i → IsSmallFall (get_or xs k d)) → x ≡ get_or xs i x → IsSmallFall x
    → (k : ℕ) (d : Option ℤ) → k < i + 1 → IsSmallFall (get_or xs k d)
small_more [] i x h before e small k d l = absurd (omega arith)
small_more (y ∷ ys) zero x h before e small zero d l = subst IsSmallFall e small
small_more (y ∷ ys) zero x h before e small (suc k) d l = absurd (omega arith)
small_more (y ∷ ys) (suc i) x h before e small zero d l = before zero d (omega arith)
small_more (y ∷ ys) (suc i) x h before e small (suc k) d l =
    small_more ys i x (omega arith) (λ j f m. before (suc j) f (omega arith)) e small k d (omega arith)
