use Rattle.std.proofs.Common.{length, arith}
use Rattle.teco_text.proofs.LinePlaces.{back_first, back_second}
use Rattle.teco_text.proofs.lines.place_back.Goals as goal

pub returns-in-Ok-clause-counted : goal.returns-in-Ok-clause-counted
returns-in-Ok-clause-counted c = back_first 0 (length c.args.first.now) c.args.first.now c.args.second.now c.args.count
    (omega arith) _ c.in-Ok.ensures.counted

pub returns-in-Err-clause-counted : goal.returns-in-Err-clause-counted
returns-in-Err-clause-counted c =
    back_second 0 (length c.args.first.now) c.args.first.now c.args.second.now c.args.count
    (omega arith) _ _ c.in-Err.ensures.counted c.nth_place_from_end-in-Err.ensures.counted
