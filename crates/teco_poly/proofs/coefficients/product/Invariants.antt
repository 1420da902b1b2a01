use Rattle.teco_poly.proofs.Prelude.{◌≡◌, drop, Some, product, fitted}
use Rattle.teco_poly.proofs.coefficients.product.Given as goal

-- the product of the part of the left side from this power on
abbrev pub invariant-loop-power : goal.invariant-loop-power
invariant-loop-power l = Some l.product ≡ fitted (product (drop l.power l.left) l.right)
