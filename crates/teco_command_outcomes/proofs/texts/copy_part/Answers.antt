use Rattle.teco_command_outcomes.proofs.Prelude.{subst, All}
use Rattle.teco_linear.specs.Implied as linear
use Rattle.teco_command_outcomes.proofs.Copying.{copies_part}
use Rattle.teco_command_outcomes.proofs.texts.copy_part.Goals as goal

pub returns : goal.returns
returns c =
    copies_part c.args.case.now c.args.register c.args.colons c.in_ok-rest.rest c.args.taken.first c.args.taken.second
    c.in_ok-all.all c.in_ok-all.ensures.copies c.in_ok-rest.ensures
    (λ n v s t h.
    c.in_ok-conditions.ensures n v s t
    (c.in_ok-add_room.ensures n v (subst (All (linear.Holds n v)) c.in_ok-all.ensures.conditions h)).0)
    (λ n v h. (c.in_ok-add_room.ensures n v (subst (All (linear.Holds n v)) c.in_ok-all.ensures.conditions h)).1)
