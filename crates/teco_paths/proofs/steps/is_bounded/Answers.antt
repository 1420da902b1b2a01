use Rattle.teco_paths.proofs.Answered.{on_true}
use Rattle.teco_paths.proofs.Claiming.{measure_within}
use Rattle.teco_paths.proofs.steps.is_bounded.Goals as goal

pub returns : goal.returns
returns c =
    on_true c.in_ok-is_within.is_within
    (measure_within c.args.case.now c.args.which c.args.polynomial.now c.in_ok-most.most c.in_ok-measured.measured
    c.in_ok-sub.field-0 c.in_ok-most.ensures c.in_ok-measured.ensures c.in_ok-sub.ensures)
    c.in_ok-is_within.ensures
