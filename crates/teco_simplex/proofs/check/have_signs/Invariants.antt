use Rattle.std.proofs.Common.{ℕ, ◌<◌, get_or, pos}
use Rattle.teco_simplex.specs.declared.program.Sign.TheVariants.{Free}
use Rattle.teco_simplex.specs.Satisfaction.{HasSign}
use Rattle.teco_simplex.proofs.check.have_signs.Given as goal

abbrev pub invariant-loop-place : goal.invariant-loop-place
invariant-loop-place l = (k : ℕ) → k < l.place → HasSign (get_or l.signs k Free) (get_or l.numerators k (pos 0))
