use Rattle.teco_query_outcomes.proofs.Asking.{stands_is}
use Rattle.teco_query_outcomes.proofs.queries.stands.Goals as goal

pub returns : goal.returns
returns c =
    stands_is c.args.case.now c.waiting.result c.in_ok-value.value _ c.is_alone.ensures c.waiting.ensures
    c.in_ok-value.ensures
