use Rattle.teco_query_outcomes.proofs.Prelude.{IfOk-weaker}
use Rattle.teco_query_outcomes.proofs.Converting.{read_asked, written_asked}
use Rattle.teco_query_outcomes.proofs.conversions.convert.Goals as goal

pub returns-in-Some : goal.returns-in-Some
returns-in-Some c =
    IfOk-weaker c.write_number.result _ _
    (λ all writes. written_asked c.args.case.now _ c.in-Some.number all c.in-Some.is c.in_ok-value.ensures writes)
    c.write_number.ensures

pub returns-in-None : goal.returns-in-None
returns-in-None c =
    IfOk-weaker c.read_number.result _ _
    (λ all reads. read_asked c.args.case.now _ all c.in-None.is c.in_ok-value.ensures reads)
    c.read_number.ensures
