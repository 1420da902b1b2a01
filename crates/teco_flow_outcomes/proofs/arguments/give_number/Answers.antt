use Rattle.teco_flow_outcomes.proofs.Prelude.{◌≡◌, ◌∙◌, to_z, arith, common_steps, IfOk-weaker, to_z-of_z}
use Rattle.std.proofs.Common.{of_z}
use mir.Syntax.{w128}
use Rattle.teco_flow_outcomes.proofs.Arguing.{number_given}
use Rattle.teco_flow_outcomes.proofs.arguments.give_number.Goals as goal

pub returns : goal.returns
returns c =
    let same : to_z w128 (of_z w128 c.from.result) ≡ c.args.number = grind (arith, common_steps, to_z-of_z) in
    IfOk-weaker c.give.result _ _
    (λ all gives.
    number_given c.args.case.now c.in_ok-form.form c.args.number all (λ n v. c.in_ok-form.ensures n v ∙ same) gives)
    c.give.ensures
