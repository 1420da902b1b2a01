use Rattle.std.proofs.Common.{rules}
use Rattle.teco_told.proofs.NearTables.{wider_within}
use Rattle.teco_told.proofs.near.is_wider.Goals as goal

pub returns-then-other-one : goal.returns-then-other-one
returns-then-other-one c = λ ok character is.
    wider_within c.args.one c.args.other c.if-other-one.true (search rules) character is
