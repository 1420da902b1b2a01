use Rattle.teco_paths.proofs.Prelude.{subst, OnTrue, All, Course, Leads, LeadsOn}
use Rattle.teco_paths.specs.Claims.{HasNoCut}
use Rattle.teco_paths.proofs.Answered.{if_ok}
use Rattle.teco_paths.proofs.Onward.{leads_at_once}
use Rattle.teco_paths.proofs.following.spots_ahead.Goals as goal

pub returns : goal.returns
returns c =
    if_ok (λ spots. All (LeadsOn c.args.course.now) spots.items
    → Leads c.args.course.now c.args.spot.now.number c.args.spot.now.case)
    (λ spots. All (LeadsOn c.args.course.now) spots.items → LeadsOn c.args.course.now c.args.spot.now) c.behind.result
    (λ spots leads all. leads_at_once c.args.course.now c.args.spot.now
    (subst (λ b. OnTrue b (HasNoCut c.args.course.now.cuts c.args.spot.now.number)) c.if-not-is_no_cut.false
    c.is_no_cut.ensures) (leads all))
    c.behind.ensures

pub returns-then-not-is_no_cut : goal.returns-then-not-is_no_cut
returns-then-not-is_no_cut c =
    if_ok (λ spots. (course : Course) → All (LeadsOn course) spots.items → LeadsOn course c.args.spot.now)
    (λ spots. All (LeadsOn c.args.course.now) spots.items → LeadsOn c.args.course.now c.args.spot.now) c.halves.result
    (λ spots leads. leads c.args.course.now)
    c.halves.ensures
