use Rattle.std.proofs.Common.{◌≡◌, take}
use Rattle.teco_simplex.specs.Satisfaction.{total_of}
use Rattle.teco_simplex.proofs.check.total.Given as goal

abbrev pub invariant-loop-term : goal.invariant-loop-term
invariant-loop-term l = l.sum ≡ total_of (take l.term-index l.terms) l.numerators
