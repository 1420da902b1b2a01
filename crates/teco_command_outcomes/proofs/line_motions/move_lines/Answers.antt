use Rattle.teco_command_outcomes.proofs.Prelude.{pos, negsuc, IfOk-weaker}
use Rattle.teco_command_outcomes.proofs.Lining.{goes_back, known_lines, moves_lines}
use Rattle.teco_command_outcomes.proofs.line_motions.move_lines.Goals as goal

pub returns-then-is_number : goal.returns-then-is_number
returns-then-is_number c =
    IfOk-weaker c.next_line.result _ _
    (λ all goes.
    known_lines c.args.case.now c.args.taken c.in_ok-by.by (pos 1) all c.in_ok-by.ensures
    (c.is_number.ensures c.if-is_number.true) goes)
    c.next_line.ensures

pub returns-then-is_number-2 : goal.returns-then-is_number-2
returns-then-is_number-2 c =
    IfOk-weaker c.line_start.result _ _
    (λ all goes.
    known_lines c.args.case.now c.args.taken c.in_ok-by.by (pos 0) all c.in_ok-by.ensures
    (c.is_number-2.ensures c.if-is_number-2.true) goes)
    c.line_start.ensures

pub returns-then-is_number-3 : goal.returns-then-is_number-3
returns-then-is_number-3 c =
    IfOk-weaker c.line_before.result _ _
    (λ all goes.
    known_lines c.args.case.now c.args.taken c.in_ok-by.by (negsuc 0) all c.in_ok-by.ensures
    (c.is_number-3.ensures c.if-is_number-3.true) goes)
    c.line_before.ensures

pub returns-then-is_negative : goal.returns-then-is_negative
returns-then-is_negative c =
    IfOk-weaker c.lines_before.result _ _
    (λ all goes.
    moves_lines c.args.case.now c.args.taken c.in_ok-by.by all c.in_ok-by.ensures
    (goes_back c.args.case.now c.in_ok-by.by all (c.is_negative.ensures c.if-is_negative.true) goes))
    c.lines_before.ensures

pub returns : goal.returns
returns c =
    IfOk-weaker c.by_lines.result _ _
    (λ all goes. moves_lines c.args.case.now c.args.taken c.in_ok-by.by all c.in_ok-by.ensures goes)
    c.by_lines.ensures
