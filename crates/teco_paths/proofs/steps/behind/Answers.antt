use Rattle.teco_paths.proofs.Prelude.{subst, OnTrue, All, Leads, LeadsOn, GoOn, IsSmall}
use Rattle.teco_paths.proofs.Answered.{if_ok}
use Rattle.teco_paths.proofs.Onward.{leads_by}
use Rattle.teco_paths.proofs.steps.behind.Goals as goal

pub returns : goal.returns
returns c =
    let small : IsSmall c.args.course.now c.args.case.now =
    subst (λ b. OnTrue b (IsSmall c.args.course.now c.args.case.now)) c.if-not-is_within.false c.in_ok-is_within.ensures
    in
    if_ok (λ spots. GoOn c.args.course.now.nodes c.args.course.now.needs c.args.number c.args.case.now spots.items)
    (λ spots. All (LeadsOn c.args.course.now) spots.items → Leads c.args.course.now c.args.number c.args.case.now)
    c.behind_node.result
    (λ spots go all. leads_by c.args.course.now c.args.number c.args.case.now spots.items small
    go all)
    c.behind_node.ensures
