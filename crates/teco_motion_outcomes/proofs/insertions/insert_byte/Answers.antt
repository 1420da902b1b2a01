use Rattle.teco_motion_outcomes.proofs.Prelude.{IfOk-weaker}
use Rattle.teco_motion_outcomes.proofs.Inserting.{inserts_known, inserts_unknown}
use Rattle.teco_motion_outcomes.proofs.insertions.insert_byte.Goals as goal

pub returns-in-Some : goal.returns-in-Some
returns-in-Some c =
    IfOk-weaker c.insert_text.result _ _
    (λ all told. inserts_known c.args.case.now c.args.number.now c.in-Some.byte all c.in-Some.ensures told)
    c.insert_text.ensures

pub returns-in-None : goal.returns-in-None
returns-in-None c =
    IfOk-weaker c.insert_any.result _ _
    (λ all told. inserts_unknown c.args.case.now c.args.number.now all told) c.insert_any.ensures
