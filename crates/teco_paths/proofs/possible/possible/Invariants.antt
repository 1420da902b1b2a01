use Rattle.teco_paths.proofs.Prelude.{AreSifted}
use Rattle.teco_paths.proofs.possible.possible.Given as goal

-- a state as which one of the cases is, is as one that is left or one that was found
abbrev pub invariant-cases : goal.invariant-cases
invariant-cases l = AreSifted l.fn.cases.items l.rest.items l.found.items
