use Rattle.teco_find.proofs.Prelude.{joined}
use Rattle.teco_find.proofs.Needled.{up_to}
use Rattle.teco_find.proofs.needle.next_behind.Goals as goal

pub returns : goal.returns
returns c = up_to c.args.needle.now (joined c.args.text) c.requires.some c.args.at c.first_behind.result
    c.first_behind.ensures
