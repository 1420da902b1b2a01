use Rattle.teco_motion_outcomes.proofs.Prelude.{ap, ◌∙◌, if◌then◌else◌, IfOk-weaker}
use Rattle.teco_motion_outcomes.proofs.Moving.{moves}
use Rattle.teco_motion_outcomes.proofs.motions.move_to.Goals as goal

pub returns-then-has_colon : goal.returns-then-has_colon
returns-then-has_colon c =
    IfOk-weaker c.try_to_go.result _ _
    (λ all goes e same.
    moves c.args.case.now c.args.kind c.args.taken c.in_ok-place.place all 1 c.requires c.in_ok-place.ensures goes e
    (same ∙ ap (λ b. if b then 1 else 0) c.if-has_colon.true))
    c.try_to_go.ensures

pub returns-else-has_colon : goal.returns-else-has_colon
returns-else-has_colon c =
    IfOk-weaker c.go.result _ _
    (λ all goes e same.
    moves c.args.case.now c.args.kind c.args.taken c.in_ok-place.place all 0 c.requires c.in_ok-place.ensures goes e
    (same ∙ ap (λ b. if b then 1 else 0) c.if-has_colon.false))
    c.go.ensures
