use Rattle.teco_query_outcomes.proofs.Prelude.{IfOk-weaker}
use Rattle.teco_query_outcomes.proofs.Converting.{reads_number}
use Rattle.teco_query_outcomes.proofs.conversions.read_number.Goals as goal

pub returns : goal.returns
returns c =
    IfOk-weaker c.give_any.result _ _
    (λ all gives. reads_number c.args.case.now c.in_ok-behind.behind all c.in_ok-behind.ensures gives)
    c.give_any.ensures
