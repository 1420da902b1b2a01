use Rattle.teco_text.proofs.LinePlaces.{ahead_first, ahead_second}
use Rattle.teco_text.proofs.lines.place_ahead.Goals as goal

pub returns-in-Ok-clause-counted : goal.returns-in-Ok-clause-counted
returns-in-Ok-clause-counted c =
    ahead_first c.args.at c.args.first.now c.args.second.now c.args.count _ c.in-Ok.ensures.counted

pub returns-in-Err-clause-counted : goal.returns-in-Err-clause-counted
returns-in-Err-clause-counted c =
    ahead_second c.args.at c.args.first.now c.args.second.now c.args.count _ _ c.in-Err.ensures.counted
    c.nth_place-in-Err.ensures.counted
