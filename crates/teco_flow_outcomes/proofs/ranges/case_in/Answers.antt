use Rattle.teco_flow_outcomes.proofs.Prelude.{rules, IfOk-weaker}
use Rattle.teco_flow_outcomes.proofs.Turning.{is_behind_in}
use Rattle.teco_flow_outcomes.proofs.ranges.case_in.Goals as goal

pub returns : goal.returns
returns c =
    IfOk-weaker c.command.result _ _
    (λ made led.
    is_behind_in c.args.case.now made c.args.range c.in_ok-row.row.items _ c.args.number.now c.args.here (search rules)
    c.in_ok-row.ensures led)
    c.command.ensures
