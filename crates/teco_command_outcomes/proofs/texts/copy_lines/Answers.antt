use Rattle.teco_command_outcomes.proofs.Prelude.{refl}
use Rattle.teco_command_outcomes.proofs.Copying.{copies_lines}
use Rattle.teco_command_outcomes.proofs.texts.copy_lines.Goals as goal

pub returns-clause-copies : goal.returns-clause-copies
returns-clause-copies c =
    copies_lines c.args.case.now _ c.args.register c.in_ok-here.here c.args.given.now _ c.in_ok-here.ensures.register
    c.in_ok-here.ensures.within c.in_ok-cases.ensures (_, refl, refl) (_, refl, refl)
