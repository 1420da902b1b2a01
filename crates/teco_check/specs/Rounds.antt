-- The product of the turns round a node, where it is known.
use Rattle.std.specs.Prelude.{◌≡◌, ◌<◌, ◌≤◌, List, length}
use Rattle.teco_verifier.specs.expansion.Node.{Node}
use Rattle.teco_verifier.specs.table.Printed.{turns_round}
use Rattle.teco_verifier.specs.table.Table.{Table}
use Rattle.teco_check.specs.Here.{node_at}
use Rattle.teco_check.specs.declared.printed.Rounds.{Rounds}

-- the rounds are those of the node of their number, if there is one
pub record AreRounds (nodes : List Node) (table : Table) (rounds : Rounds) : Type 0 where
  pub last : rounds.number ≤ length nodes
  pub are : 0 < rounds.number → rounds.product
      ≡ turns_round table (node_at nodes rounds.number).stand.iterations
