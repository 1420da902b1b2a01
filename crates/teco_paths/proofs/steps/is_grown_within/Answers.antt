use Rattle.teco_paths.proofs.Answered.{on_true}
use Rattle.teco_paths.proofs.Claiming.{grown_within}
use Rattle.teco_paths.proofs.steps.is_grown_within.Goals as goal

pub returns : goal.returns
returns c =
    on_true c.in_ok-is_within.is_within
    (grown_within c.args.case.now c.args.polynomial.now c.in_ok-more.more c.in_ok-before.before c.in_ok-most.most
    c.in_ok-held.held c.in_ok-sub.field-0 c.in_ok-more.ensures c.in_ok-before.ensures c.in_ok-most.ensures
    c.in_ok-held.ensures c.in_ok-sub.ensures)
    c.in_ok-is_within.ensures
