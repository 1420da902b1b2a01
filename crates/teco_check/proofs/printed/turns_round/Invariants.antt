use Rattle.teco_check.proofs.Prelude.{◌≡◌, Ok, drop, turns_round, node_at}
use Rattle.teco_check.proofs.printed.turns_round.Given as goal

-- the turns of the iterations outside
abbrev pub invariant-loop-at : goal.invariant-loop-at
invariant-loop-at l = turns_round l.table (drop l.at (node_at l.nodes l.number).stand.iterations) ≡ Ok l.rounds
