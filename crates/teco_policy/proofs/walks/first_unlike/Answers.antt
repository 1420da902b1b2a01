use Rattle.teco_policy.specs.Lines.{lines}
use Rattle.teco_policy.specs.Walks.{Alike}
use Rattle.teco_policy.proofs.Walking.{first_walked, refuted}
use Rattle.teco_policy.proofs.walks.first_unlike.Goals as goal

pub returns-else-are_empty : goal.returns-else-are_empty
returns-else-are_empty c =
    let walked = c.walk-walked.result in
    first_walked (Alike c.args.rule) (lines c.args.old.now) (lines c.args.new.now) walked.count walked.old.now
    walked.new.now c.walk-walked.ensures.walks (refuted c.are_empty.result _ c.are_empty.ensures c.if-are_empty.false)
