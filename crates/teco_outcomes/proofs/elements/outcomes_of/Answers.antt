use Rattle.teco_outcomes.proofs.Prelude.{IfOk-weaker, seen}
use Rattle.teco_outcomes.proofs.Stepping.{argument_law, command_law, flow_law, query_law, stack_law, value_law}
use Rattle.teco_outcomes.proofs.elements.outcomes_of.Goals as goal

pub returns-in-Argument : goal.returns-in-Argument
returns-in-Argument c =
    IfOk-weaker c.change_arguments.result _ _
    (λ all told. argument_law (seen c.args.element.now) c.args.case.now all c.in-Argument.argument c.in-Argument.is
    told)
    c.change_arguments.ensures

pub returns-in-Value : goal.returns-in-Value
returns-in-Value c =
    IfOk-weaker c.give_value.result _ _
    (λ all told. value_law (seen c.args.element.now) c.args.case.now all c.in-Value.value c.in-Value.is told)
    c.give_value.ensures

pub returns-in-Query : goal.returns-in-Query
returns-in-Query c =
    IfOk-weaker c.ask.result _ _
    (λ all told. query_law (seen c.args.element.now) c.args.case.now all c.in-Query.query c.in-Query.is told)
    c.ask.ensures

pub returns-in-Stack : goal.returns-in-Stack
returns-in-Stack c =
    IfOk-weaker c.stack.result _ _
    (λ all told. stack_law (seen c.args.element.now) c.args.case.now all c.in-Stack.kind c.in-Stack.is told)
    c.stack.ensures

pub returns-in-Flow : goal.returns-in-Flow
returns-in-Flow c =
    IfOk-weaker c.turn.result _ _
    (λ all told. flow_law (seen c.args.element.now) c.args.case.now all c.in-Flow.flow c.in-Flow.is told)
    c.turn.ensures

pub returns-in-Command : goal.returns-in-Command
returns-in-Command c =
    IfOk-weaker c.perform.result _ _
    (λ all told. command_law (seen c.args.element.now) c.args.case.now all c.in-Command.command c.in-Command.is told)
    c.perform.ensures

pub returns-in-Search : goal.returns-in-Search
returns-in-Search c =
    IfOk-weaker c.search_with_colon.result _ _ (λ all told. told c.in-Search.is) c.search_with_colon.ensures

pub returns-in-Page : goal.returns-in-Page
returns-in-Page c =
    IfOk-weaker c.turn_page.result _ _ (λ all told. told (seen c.args.element.now) c.in-Page.is) c.turn_page.ensures
