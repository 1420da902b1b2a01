-- Facts that a table may have.
use Rattle.std.specs.Prelude.{IfSome}
use Rattle.teco_verifier.specs.facts.Facts.{Facts}
use Rattle.teco_facts.specs.Numbers.{AreSmall}
use Rattle.teco_facts.specs.Room.{HasRoom}
use Rattle.teco_verifier.specs.table.Table.{Row}

-- more may be added to their falls, and no more iterations are open than there may be
pub record AreKept (facts : Facts) : Type 0 where
  pub small : AreSmall facts.position.falls
  pub room : HasRoom facts

-- those of a row, if its node is reached
abbrev pub RowIsKept : Row → Type 0
RowIsKept row = IfSome row.facts AreKept
