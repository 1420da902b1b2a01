use Rattle.teco_motion_outcomes.proofs.Prelude.{arith, common_steps, IfOk-weaker}
use Rattle.teco_motion_outcomes.proofs.Inserting.{inserts_number, inserts_tab, inserts_text}
use Rattle.teco_motion_outcomes.proofs.insertions.insert.Goals as goal

pub returns-in-Text : goal.returns-in-Text
returns-in-Text c =
    IfOk-weaker c.insert_byte.result _ _
    (λ all told. inserts_number c.args.case.now c.args.kind c.args.taken c.in-Some.number c.args.text.now all
    c.in-Text.is
    c.in-Some.is (grind (arith, common_steps)) told)
    c.insert_byte.ensures

pub returns-in-Text-kind : goal.returns-in-Text-kind
returns-in-Text-kind c =
    IfOk-weaker c.insert_text.result _ _
    (λ all told. inserts_text c.args.case.now c.args.kind c.args.taken c.args.text.now all c.in-Text-kind.is
    c.in-None.is
    told)
    c.insert_text.ensures

pub returns : goal.returns
returns c =
    IfOk-weaker c.insert_tab.result _ _
    (λ all told. inserts_tab c.args.case.now c.args.kind c.args.taken c.args.text.now all c.in-Tab-kind.is c.in-None.is
    told)
    c.insert_tab.ensures
