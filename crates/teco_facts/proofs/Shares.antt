-- What a distance counts, if it counts a few times, has 35 bits.
use Rattle.teco_facts.proofs.Prelude.{◌≡◌, refl, ℕ, ℤ, pos, negsuc, suc, ◌*ℤ◌, ◌≤ℤ◌, ◌≤◌, FitsSigned, w64, to_z, of_z}
use Rattle.teco_facts.proofs.Prelude.{arith, ints, to_z-of_z, LIMIT}
use Rattle.std.proofs.Common.{◌^◌}
use Rattle.std.proofs.lemmas.Int.{to_z_pos}
use Rattle.std.proofs.lemmas.Nat.{mul-le}
use Rattle.teco_facts.specs.Numbers.{IsSmall}

pub record IsModestShare (z : ℤ) : Type 0 where
  pub low : negsuc (2 ^ 34) ≤ℤ z
  pub high : z ≤ℤ pos (2 ^ 34)

pub modest : (d : ℕ) (t : ℤ) → d ≤ LIMIT → IsSmall t → IsModestShare (pos d *ℤ t)
modest d (pos c) h s =
    let most = mul-le d c LIMIT 8 h (omega (arith, ints)) in
    record { low = omega (arith, ints); high = omega (arith, ints) }
modest d (negsuc c) h s =
    let most = mul-le d (suc c) LIMIT 8 h (omega (arith, ints)) in
    record { low = omega (arith, ints); high = omega (arith, ints) }

pub fits : (z : ℤ) → IsModestShare z → FitsSigned w64 z
fits z m = omega (arith, ints)

pub counted : (d : ℕ) (t : ℤ) → d ≤ LIMIT → IsSmall t → to_z w64 d *ℤ to_z w64 (of_z w64 t) ≡ pos d *ℤ t
counted d t h s = rw (to_z_pos w64 d (omega arith), to_z-of_z w64 t (omega (arith, ints))) refl

-- the product that is returned
pub returned : (d : ℕ) (t : ℤ) → d ≤ LIMIT → IsSmall t
    → to_z w64 (of_z w64 (to_z w64 d *ℤ to_z w64 (of_z w64 t))) ≡ pos d *ℤ t
returned d t h s = rw (counted d t h s, to_z-of_z w64 (pos d *ℤ t) (fits _ (modest d t h s))) refl
