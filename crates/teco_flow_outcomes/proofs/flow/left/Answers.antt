use Rattle.teco_flow_outcomes.proofs.Prelude.{rules, arith, common_steps, IfOk-weaker}
use Rattle.teco_flow_outcomes.proofs.Turning.{is_left}
use Rattle.teco_flow_outcomes.proofs.flow.left.Goals as goal

pub returns : goal.returns
returns c =
    IfOk-weaker c.turned.result _ _
    (λ made turns.
    is_left c.args.case.now c.in_ok-outermost.outermost made c.args.range c.in_ok-row.row.items _ _ turns
    c.in_ok-outermost.ensures c.in_ok-row.ensures (search rules) c.in_ok-here.ensures.iteration
    (grind (arith, common_steps)))
    c.turned.ensures
