use Rattle.teco_flow_outcomes.proofs.Prelude.{◌≡◌, ◌+◌, length, refl, arith, common_steps, IfOk-weaker, IsShape, Point}
use Rattle.teco_flow_outcomes.proofs.Arguing.{is_opened}
use Rattle.teco_flow_outcomes.proofs.arguments.opened.Goals as goal

pub returns : goal.returns
returns c =
    let deep : (s : Point) → IsShape c.args.case.now.shape s → c.in-Some.level ≡ length s.arguments.outer + 1 =
    λ s h. let at = c.in_ok-here.ensures s h in grind (arith, common_steps) in
    IfOk-weaker c.deeper.result _ _ (λ made deeper. is_opened c.args.case.now made _ refl deep deeper) c.deeper.ensures
