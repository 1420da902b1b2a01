use Rattle.teco_command_outcomes.proofs.Prelude.{IfOk-weaker}
use Rattle.teco_command_outcomes.proofs.Storing.{adds_number, adds_wrapped_number}
use Rattle.teco_command_outcomes.proofs.storages.add_number.Goals as goal

pub returns-then-may_wrap : goal.returns-then-may_wrap
returns-then-may_wrap c =
    IfOk-weaker c.one.result _ _
    (λ all one e.
    adds_wrapped_number c.args.case.now _ c.args.taken c.args.register c.in_ok-here.here _ all e
    c.in_ok-here.ensures.register c.in_ok-here.ensures.within c.in_ok-here.ensures.level one
    c.in_ok-after.ensures)
    c.one.ensures

pub returns : goal.returns
returns c =
    IfOk-weaker c.one-2.result _ _
    (λ all one e.
    adds_number c.args.case.now _ c.args.taken c.args.register c.in_ok-here.here _ all e
    c.in_ok-here.ensures.register c.in_ok-here.ensures.within c.in_ok-here.ensures.level one
    c.in_ok-number.field-0 c.in_ok-addend.addend c.in_ok-sum.sum c.in_ok-addend.ensures c.in_ok-number.ensures
    c.in_ok-sum.ensures c.in_ok-conditions.ensures c.in_ok-after-2.ensures)
    c.one-2.ensures
