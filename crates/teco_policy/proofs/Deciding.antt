-- What a call tells of a policy.
use Rattle.std.proofs.Common.{◌↔◌, ℕ, ◌*◌, ◌/◌, ◌<◌, ◌≤◌, List, [], Option, Some, None}
use Rattle.std.proofs.Common.{refl, subst, arith}
use Rattle.std.proofs.Math.Nat.{div-le_of_le-mul, mul-le-mul_right}
use Rattle.std.specs.Prelude.{IfSome, IsNone}
use Rattle.teco_policy.specs.Lines.{ChangesAtMost}
use Rattle.teco_policy.specs.Policies.{AreTooMany, IsOutsideAt, Tells}
use Rattle.teco_policy.specs.Subsequences.{IsSubsequence, IsWithin}
use Rattle.teco_policy.specs.declared.breach.Breach.{Breach}
use Rattle.teco_policy.specs.declared.breach.Place.{Place}
use Rattle.teco_policy.proofs.Subsequences.{outside_is_not_within, without_none}

pub not_within : (besides part whole : List ℕ) (place : Place) → IsOutsideAt besides part whole place
    → IsWithin besides part whole → ⊥
not_within besides part whole place outside h = outside_is_not_within besides part whole place.at outside.first h

-- besides no characters, all of a text counts
pub none_besides : (old new : List ℕ) (Broken : Breach → Type 0) (r : Option Breach)
    → Tells (IsWithin [] old new) Broken r → Tells (IsSubsequence old new) Broken r
none_besides old new Broken r h = subst (λ l. Tells (IsSubsequence l new) Broken r) (without_none old) h

pub too_many : (most count : ℕ) (old new : List (List ℕ)) → most < count
    → ((n : ℕ) → ChangesAtMost n old new ↔ count ≤ n)
    → AreTooMany most old new count × (ChangesAtMost most old new → ⊥)
too_many most count old new more counts = (
  record { more = more; counts = counts },
  λ h. let few = (counts most).0 h in omega arith,
)

pub few_enough : (most count : ℕ) (old new : List (List ℕ)) → count ≤ most
    → ((n : ℕ) → ChangesAtMost n old new ↔ count ≤ n) → ChangesAtMost most old new
few_enough most count old new few counts = (counts most).1 few

pub tells_kept : (Kept : Type 0) (Broken : Breach → Type 0) (r : Option Breach) → Tells Kept Broken r → IsNone r ↔ Kept
tells_kept Kept Broken None h = (λ e. h, λ kept. refl)
tells_kept Kept Broken (Some breach) h = (λ e. cc, λ kept. absurd (h.1 kept))

pub tells_first : (Kept : Type 0) (Broken : Breach → Type 0) (r : Option Breach) → Tells Kept Broken r
    → IfSome r Broken
tells_first Kept Broken None h = tt
tells_first Kept Broken (Some breach) h = h.0

-- a share is no more than all
pub share_fits : (hundredths count : ℕ) → hundredths ≤ 100 → hundredths * count ≤ 100 * count
share_fits hundredths count few = mul-le-mul_right count few

pub share_is_less : (hundredths count : ℕ) → hundredths ≤ 100 → hundredths * count / 100 ≤ count
share_is_less hundredths count few = div-le_of_le-mul 100 (share_fits hundredths count few)
