use Rattle.std.proofs.Common.{arith}
use Rattle.teco_model.proofs.Ahead.{element_at-fault}
use Rattle.teco_lex.proofs.ahead.read_ahead.Goals as goal

pub place_behind-requires : goal.place_behind-requires
place_behind-requires c =
    omega (arith, element_at-fault c.args.text.now c.args.at c.in-Err.code c.in-Err.ensures.read)
