use Rattle.teco_command_outcomes.proofs.Prelude.{pos, subst, All}
use Rattle.teco_linear.specs.Implied as linear
use Rattle.teco_command_outcomes.proofs.Copying.{copies_count}
use Rattle.teco_command_outcomes.proofs.Deleting.{end_within}
use Rattle.teco_command_outcomes.proofs.texts.copy_line.Goals as goal

pub returns : goal.returns
returns c =
    copies_count c.args.case.now c.args.register c.args.colons (pos 1) c.in_ok-rest.rest c.in_ok-pointer.pointer
    c.in_ok-end.end c.in_ok-all.all c.in_ok-all.ensures.copies c.in_ok-rest.ensures c.in_ok-pointer.ensures
    c.in_ok-end.ensures end_within
    (λ n v h. (c.in_ok-add_room.ensures n v (subst (All (linear.Holds n v)) c.in_ok-all.ensures.conditions h)).1)
