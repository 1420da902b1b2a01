use Rattle.teco_paths.proofs.Prelude.{AreLeft}
use Rattle.teco_paths.proofs.steps.kept.Given as goal

-- one of the cases that are left, or one of the spots
abbrev pub invariant-cases : goal.invariant-cases
invariant-cases l = AreLeft l.nodes l.number l.is_away l.fn.cases.items l.rest.items l.spots.items
