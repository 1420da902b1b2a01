use Rattle.teco_command_outcomes.proofs.Prelude.{subst, sym, IfOk-weaker, seen, typing, Performs}
use Rattle.teco_command_outcomes.proofs.Writing.{byte_typed, lines_typed, number_typed, part_typed, text_typed}
use Rattle.teco_command_outcomes.proofs.Writing.{view_typed}
use Rattle.teco_command_outcomes.proofs.typings.type_text.Goals as goal

pub returns-in-Some-value : goal.returns-in-Some-value
returns-in-Some-value c =
    IfOk-weaker c.type_part.result _ _
    (λ all told.
    subst (λ k. Performs (typing k (seen c.args.element.now)) c.args.taken c.args.case.now all) (sym c.in-Part.is)
    (part_typed c.args.case.now c.args.taken c.in-Some.first c.in-Some-value.second all (seen c.args.element.now)
    c.in-Some.is c.in-Some-value.is told))
    c.type_part.ensures

pub returns-in_ok-by-in-None : goal.returns-in_ok-by-in-None
returns-in_ok-by-in-None c =
    IfOk-weaker c.type_lines.result _ _
    (λ all told.
    subst (λ k. Performs (typing k (seen c.args.element.now)) c.args.taken c.args.case.now all) (sym c.in-Part.is)
    (lines_typed c.args.case.now c.args.taken c.in_ok-by-in-None.by all (seen c.args.element.now) c.in-None.is
    c.in_ok-by-in-None.ensures told))
    c.type_lines.ensures

pub returns-in_ok-by-in-View : goal.returns-in_ok-by-in-View
returns-in_ok-by-in-View c =
    IfOk-weaker c.type_view.result _ _
    (λ all told.
    subst (λ k. Performs (typing k (seen c.args.element.now)) c.args.taken c.args.case.now all) (sym c.in-View.is)
    (view_typed c.args.case.now c.args.taken c.in_ok-by-in-View.by all (seen c.args.element.now)
    c.in_ok-by-in-View.ensures told))
    c.type_view.ensures

pub returns-in-Message : goal.returns-in-Message
returns-in-Message c =
    IfOk-weaker c.type_message.result _ _
    (λ all told.
    subst (λ k. Performs (typing k (seen c.args.element.now)) c.args.taken c.args.case.now all) (sym c.in-Message.is)
    (text_typed c.args.case.now c.args.taken all (seen c.args.element.now) told))
    c.type_message.ensures

pub returns-in-Byte : goal.returns-in-Byte
returns-in-Byte c =
    IfOk-weaker c.type_byte.result _ _
    (λ all told.
    subst (λ k. Performs (typing k (seen c.args.element.now)) c.args.taken c.args.case.now all) (sym c.in-Byte.is)
    (byte_typed c.args.case.now c.args.taken all (seen c.args.element.now) told))
    c.type_byte.ensures

pub returns-in-Number : goal.returns-in-Number
returns-in-Number c =
    IfOk-weaker c.type_number.result _ _
    (λ all told.
    subst (λ k. Performs (typing k (seen c.args.element.now)) c.args.taken c.args.case.now all) (sym c.in-Number.is)
    (number_typed c.args.case.now c.args.taken all _ (seen c.args.element.now) told))
    c.type_number.ensures
