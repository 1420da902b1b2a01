use Rattle.teco_command_outcomes.proofs.Prelude.{subst, All}
use Rattle.teco_linear.specs.Implied as linear
use Rattle.teco_command_outcomes.proofs.Writing.{types_number}
use Rattle.teco_command_outcomes.proofs.typings.type_number.Goals as goal

pub returns : goal.returns
returns c =
    types_number c.args.case.now c.args.value.now c.in-Some.number c.in_ok-form.form c.args.radix c.args.colons
    c.most_characters.result c.in_ok-all.all c.in-Some.is c.most_characters.ensures c.in_ok-form.ensures
    (λ n v h. c.in_ok-conditions.ensures n v (subst (All (linear.Holds n v)) c.in_ok-all.ensures.conditions h))
    c.in_ok-all.ensures.types
