use Rattle.std.proofs.Common.{◌≡◌, ℕ, ◌+◌, List, false, nat_le, sym, arith, subst}
use Rattle.std.proofs.lemmas.Bool.{leb-false}
use Rattle.teco_poly.specs.Polynomial as poly
use Rattle.teco_poly.proofs.Values.{value_grows}
use Rattle.teco_poly.proofs.poly.Poly.greatest_within.Invariants.{IsNear}
use Rattle.teco_poly.proofs.poly.Poly.greatest_within.Goals as goal

pub returns-then-not-is_within-clause-none : goal.returns-then-not-is_within-clause-none
returns-then-not-is_within-clause-none c none n =
    let above : false ≡ nat_le (poly.value c.args.self.now 0) c.args.bound = c.if-not-is_within.ensures in
    omega (arith, leb-false _ _ (sym above), value_grows c.args.self.now 0 n (omega arith))

-- above it by one the value is above the bound, and so it is further on
greatest : (p : List ℕ) (bound n : ℕ) → IsNear p bound n 0 → poly.IsGreatest p bound n
greatest p bound n near =
    record {
      fits = near.fits;
      within = near.within;
      above = λ m more small. omega (arith, near.above (omega arith), value_grows p (n + 1) m (omega arith));
    }

pub returns-clause-greatest : goal.returns-clause-greatest
returns-clause-greatest c =
    let last : c.loop-bit.bit ≡ 0 = omega arith in
    greatest c.args.self.now c.args.bound c.loop-bit.greatest
    (subst (λ bit. IsNear c.args.self.now c.args.bound c.loop-bit.greatest bit) last c.loop-bit.invariant)
