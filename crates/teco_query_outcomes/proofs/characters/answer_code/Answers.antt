use Rattle.teco_query_outcomes.proofs.Prelude.{negsuc, pos, IfOk-weaker}
use Rattle.teco_query_outcomes.proofs.Reading.{gives_code}
use Rattle.teco_query_outcomes.proofs.characters.answer_code.Goals as goal

pub returns-then-is_number : goal.returns-then-is_number
returns-then-is_number c =
    IfOk-weaker c.character_here.result _ _
    (λ all answers.
    gives_code c.args.case.now c.args.by (pos 0) all (c.is_number.ensures c.if-is_number.true) answers)
    c.character_here.ensures

pub returns-then-is_number-2 : goal.returns-then-is_number-2
returns-then-is_number-2 c =
    IfOk-weaker c.character_before.result _ _
    (λ all answers.
    gives_code c.args.case.now c.args.by (negsuc 0) all (c.is_number-2.ensures c.if-is_number-2.true) answers)
    c.character_before.ensures
