use Rattle.teco_motion_outcomes.proofs.Prelude.{refl}
use Rattle.teco_motion_outcomes.proofs.Moving.{passes}
use Rattle.teco_motion_outcomes.proofs.motions.pass.Goals as goal

pub returns-clause-passes : goal.returns-clause-passes
returns-clause-passes c =
    passes c.args.case.now _ c.args.place c.in_ok-here.here c.in_ok-here.ensures _ c.in_ok-cases.ensures (_, refl, refl)
    (_, refl, refl) (_, refl, refl)
