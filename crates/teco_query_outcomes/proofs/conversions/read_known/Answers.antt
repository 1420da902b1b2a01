use Rattle.teco_query_outcomes.proofs.Prelude.{subst, All, IfOk-weaker}
use Rattle.teco_query_outcomes.specs.Conversions.{GivesAmong}
use Rattle.teco_query_outcomes.proofs.Converting.{reads_known}
use Rattle.teco_query_outcomes.proofs.conversions.read_known.Goals as goal

pub returns : goal.returns
returns c =
    IfOk-weaker c.give_each.result _ _
    (λ all gives.
    reads_known c.args.case.now c.in_ok-behind.behind.items all c.in_ok-behind.ensures
    (subst (All (GivesAmong all.cases.items)) c.deref.ensures.value gives))
    c.give_each.ensures
