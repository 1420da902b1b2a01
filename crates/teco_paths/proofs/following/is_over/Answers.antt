use Rattle.teco_paths.proofs.Prelude.{subst, ap, length, arith, OnTrue, Course, IsInTime, IsSmall}
use Rattle.teco_paths.specs.Claims.{HasNoCut}
use Rattle.teco_paths.proofs.Answered.{on_true}
use Rattle.teco_paths.proofs.Onward.{over_leads}
use Rattle.teco_paths.proofs.following.is_over.Goals as goal

pub returns-then-is_within : goal.returns-then-is_within
returns-then-is_within c =
    on_true c.in_ok-is_quiet.is_quiet
    (over_leads c.runs_end.ensures c.args.course.now c.args.spot.now (omega arith)
    (omega (arith, c.len.ensures, ap (λ (x : Course). length x.nodes) c.course.view_is))
    (subst (λ b. OnTrue b (HasNoCut c.args.course.now.cuts c.args.spot.now.number)) c.if-not-is_no_cut.false
    c.is_no_cut.ensures)
    (subst (λ b. OnTrue b (IsInTime c.args.course.now c.args.spot.now.case)) c.if-is_within.true.0
    c.in_ok-is_timely.ensures)
    (subst (λ b. OnTrue b (IsSmall c.args.course.now c.args.spot.now.case)) c.if-is_within.true.1
    c.in_ok-is_within.ensures))
    c.in_ok-is_quiet.ensures
