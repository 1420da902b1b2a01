use Rattle.std.specs.Prelude.{ℕ, ◌<◌, List, slice_index_or}
use Rattle.teco_linear.specs.declared.term.Term.{Term}
use Rattle.teco_linear.specs.Implied.{Implies}
use Rattle.teco_implied.proofs.implied.are_so.Given as goal

-- those before this one are
abbrev pub invariant-loop-target : goal.invariant-loop-target
invariant-loop-target l =
    (k : ℕ) (d : List Term) → k < l.target-index → Implies l.case.constraints.items (slice_index_or l.targets k d)
