use Rattle.teco_paths.proofs.Prelude.{arith}
use Rattle.teco_paths.proofs.Leading.{first_target, one_target, open_target, second_target}
use Rattle.teco_paths.proofs.targets.target.Goals as goal

pub returns-in_default-way : goal.returns-in_default-way
returns-in_default-way c =
    one_target c.steps_go_along_nodes.ensures c.args.nodes.now c.args.number c.args.is_away c.args.case.now
    c.in-Some.first c.way.result c.in-Some.is c.way.ensures c.way-2.result c.in_default-way.is c.way-2.ensures

pub returns-then-is_away : goal.returns-then-is_away
returns-then-is_away c =
    second_target c.steps_go_along_nodes.ensures c.args.nodes.now c.args.number c.args.is_away c.args.case.now
    c.in-Some.first c.way.result c.in-Some.is c.way.ensures c.in-Some-way.second c.way-2.result c.in-Some-way.is
    c.way-2.ensures c.if-is_test.ensures c.if-is_away.true

pub returns-else-is_away : goal.returns-else-is_away
returns-else-is_away c =
    first_target c.steps_go_along_nodes.ensures c.args.nodes.now c.args.number c.args.is_away c.args.case.now
    c.in-Some.first c.way.result c.in-Some.is c.way.ensures c.if-is_test.ensures c.if-is_away.false

pub returns-in-Some-by_iterations : goal.returns-in-Some-by_iterations
returns-in-Some-by_iterations c =
    open_target c.steps_go_along_nodes.ensures c.args.nodes.now c.args.number c.args.is_away c.args.case.now
    c.in-Some.first c.way.result c.in-Some.is c.way.ensures c.in-Some-way.second c.way-2.result c.in-Some-way.is
    c.way-2.ensures c.iterations_are_open.ensures
    (λ node is. omega (arith, c.ways.ensures node is, c.if-ways-gt2.false))
    c.in-Some-by_iterations.target c.in-Some-by_iterations.ensures
