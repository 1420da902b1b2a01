use Rattle.teco_query_outcomes.proofs.Prelude.{IfOk-weaker}
use Rattle.teco_query_outcomes.proofs.Converting.{stands_alone, stands_not}
use Rattle.teco_query_outcomes.proofs.conversions.standing.Goals as goal

pub returns-in-None : goal.returns-in-None
returns-in-None c =
    IfOk-weaker c.pending.result _ _
    (λ form is. stands_alone c.args.case.now form c.waiting.result c.in-None.is c.waiting.ensures is)
    c.pending.ensures

pub returns-in-Some : goal.returns-in-Some
returns-in-Some c = stands_not c.args.case.now c.waiting.result _ c.in-Some.is c.waiting.ensures
