-- What is linear may be kept.
use Rattle.teco_facts.proofs.Prelude.{◌≡◌, refl, ℤ, pos, negsuc, ◌-ℤ◌, ◌≤ℤ◌, Bool, true, false, ◌&&◌, arith, ints}
use Rattle.teco_facts.proofs.Prelude.{Value, least_share, most_share, is_linear, IsNumber}
use Rattle.std.proofs.Common.{int_le}
use Rattle.teco_verifier.specs.facts.Values.{is_sign}

both : (x y : Bool) → (x && y) ≡ true → (x ≡ true) × (y ≡ true)
both true y h = (refl, h)
both false y h = absurd (cc)

-- what a sign is
record IsSign (z : ℤ) : Type 0 where
  low : negsuc 0 ≤ℤ z
  high : z ≤ℤ pos 1

sign_is : (z : ℤ) → is_sign z ≡ true → IsSign z
sign_is z h = let p = both (int_le (negsuc 0) z) (int_le z (pos 1)) h in
    record { low = omega (arith, ints, p); high = omega (arith, ints, p) }

-- what a few times of a distance are at the least and at the most
record IsFew (c : ℤ) : Type 0 where
  least : negsuc 536870911 ≤ℤ least_share 0 c
  most : most_share 0 c ≤ℤ pos 536870912

few : (c : ℤ) → negsuc 1 ≤ℤ c → c ≤ℤ pos 2 → IsFew c
few (pos c) h i = record { least = omega (arith, ints); most = omega (arith, ints) }
few (negsuc c) h i = record { least = omega (arith, ints); most = omega (arith, ints) }

one_few : (c : ℤ) → IsSign c → (negsuc 268435455 ≤ℤ least_share 0 c) × (most_share 0 c ≤ℤ pos 268435456)
one_few (pos c) s = (omega (arith, ints), omega (arith, ints))
one_few (negsuc c) s = (omega (arith, ints), omega (arith, ints))

pub linear_is_number : (n : Value) → is_linear n ≡ true → n.lo ≤ℤ n.hi → IsNumber n.ahead n.behind n.lo n.hi
linear_is_number n h ordered =
    let signs = is_sign n.ahead && is_sign (n.behind -ℤ n.ahead) in
    let single = int_le n.hi n.lo in
    let low = int_le (negsuc 536870911) n.lo in
    let p = both (signs && single && low) (int_le n.hi (pos 536870912)) h in
    let q = both (signs && single) low p.0 in
    let r = both signs single q.0 in
    let s = both (is_sign n.ahead) (is_sign (n.behind -ℤ n.ahead)) r.0 in
    let sign = sign_is n.ahead s.0 in
    let apart = sign_is (n.behind -ℤ n.ahead) s.1 in
    let one = one_few n.ahead sign in
    let two = few n.behind (omega (arith, ints)) (omega (arith, ints)) in
    record {
      ahead_low = omega (arith, ints);
      ahead_high = omega (arith, ints);
      behind_low = omega (arith, ints);
      behind_high = omega (arith, ints);
      range = record { ordered = ordered; low = omega (arith, ints, q.1); high = omega (arith, ints, p.1) };
      low = omega (arith, ints, q.1, p.1, r.1);
      high = omega (arith, ints, q.1, p.1, r.1);
    }
