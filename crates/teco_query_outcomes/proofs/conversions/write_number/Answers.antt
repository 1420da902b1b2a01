use Rattle.teco_query_outcomes.proofs.Converting.{writes_number}
use Rattle.teco_query_outcomes.proofs.conversions.write_number.Goals as goal

pub returns : goal.returns
returns c =
    writes_number c.args.case.now c.args.number _ c.in_ok-guarded.ensures c.in_ok-cases.ensures
    c.in_ok-conditions.ensures
