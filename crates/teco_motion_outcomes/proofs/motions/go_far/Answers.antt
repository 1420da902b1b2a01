use Rattle.teco_motion_outcomes.proofs.Prelude.{refl}
use Rattle.teco_motion_outcomes.proofs.Moving.{goes_far}
use Rattle.teco_motion_outcomes.proofs.motions.go_far.Goals as goal

pub returns-clause-goes : goal.returns-clause-goes
returns-clause-goes c =
    goes_far c.args.case.now _ c.args.place c.in_ok-here.here c.in_ok-here.ensures _ c.in_ok-cases.ensures (
      _,
      refl,
      refl,
    )
    (_, refl, refl) (_, refl, refl)
