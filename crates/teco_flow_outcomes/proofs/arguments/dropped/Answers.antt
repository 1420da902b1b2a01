use Rattle.teco_flow_outcomes.proofs.Prelude.{[], IfOk-weaker}
use Rattle.teco_flow_outcomes.proofs.Arguing.{is_dropped}
use Rattle.teco_flow_outcomes.proofs.arguments.dropped.Goals as goal

pub returns : goal.returns
returns c =
    IfOk-weaker c.command.result _ _
    (λ made led.
    is_dropped c.args.case.now c.in_ok-outermost.outermost made [] _ c.in_ok-outermost.ensures led)
    c.command.ensures
