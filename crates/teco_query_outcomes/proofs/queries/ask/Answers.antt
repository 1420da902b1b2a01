use Rattle.teco_query_outcomes.proofs.Prelude.{◌≤◌, arith, subst, sym, common_steps, IfOk-weaker, Asks}
use Rattle.teco_query_outcomes.proofs.Asking.{length_asked}
use Rattle.teco_query_outcomes.proofs.queries.ask.Goals as goal

pub returns-in_ok-length-in-Number : goal.returns-in_ok-length-in-Number
returns-in_ok-length-in-Number c =
    let some : 1 ≤ c.args.colons = grind (arith, common_steps) in
    IfOk-weaker c.give.result _ _
    (λ all gives.
    subst (λ q. Asks q c.args.colons c.args.case.now all) (sym c.in-Number.is)
    (length_asked c.args.case.now c.in_ok-length-in-Number.field-0 c.in-Number.register c.args.colons all some
    c.in_ok-length-in-Number.ensures gives))
    c.give.ensures

pub returns-in-Mode : goal.returns-in-Mode
returns-in-Mode c =
    IfOk-weaker c.ask_mode.result _ _
    (λ all told. subst (λ q. Asks q c.args.colons c.args.case.now all) (sym c.in-Mode.is) (told c.args.colons))
    c.ask_mode.ensures

pub returns-in-Conversion : goal.returns-in-Conversion
returns-in-Conversion c =
    IfOk-weaker c.convert.result _ _
    (λ all asks. subst (λ q. Asks q c.args.colons c.args.case.now all) (sym c.in-Conversion.is) (asks c.args.colons))
    c.convert.ensures
