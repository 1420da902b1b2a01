use Rattle.teco_motion_outcomes.proofs.Prelude.{refl}
use Rattle.teco_motion_outcomes.proofs.Moving.{tries}
use Rattle.teco_motion_outcomes.proofs.motions.try_to_go.Goals as goal

pub returns : goal.returns
returns c =
    tries c.args.case.now _ c.args.place c.in_ok-here.here c.in_ok-here.ensures _ c.in_ok-cases.ensures (_, refl, refl)
    (_, refl, refl) (_, refl, refl) (_, refl, refl) (_, refl, refl)
