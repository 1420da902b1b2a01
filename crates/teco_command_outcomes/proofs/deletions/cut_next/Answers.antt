use Rattle.teco_command_outcomes.proofs.Prelude.{refl}
use Rattle.teco_command_outcomes.proofs.Passing.{cuts_next}
use Rattle.teco_command_outcomes.proofs.deletions.cut_next.Goals as goal

pub returns-clause-cuts : goal.returns-clause-cuts
returns-clause-cuts c =
    cuts_next c.args.case.now _ c.in_ok-pointer.pointer c.args.place c.in_ok-here.here _ c.in_ok-cases.ensures
    (_, refl, refl) (_, refl, refl) (_, refl, refl) c.in_ok-pointer.ensures
