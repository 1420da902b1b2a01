use Rattle.teco_motion_outcomes.proofs.Prelude.{refl}
use Rattle.teco_motion_outcomes.proofs.Moving.{returns_by_one}
use Rattle.teco_motion_outcomes.proofs.motions.return_by_one.Goals as goal

pub returns-clause-returns : goal.returns-clause-returns
returns-clause-returns c =
    returns_by_one c.args.case.now _ c.args.place c.in_ok-here.here c.in_ok-here.ensures _ c.in_ok-cases.ensures (
      _,
      refl,
      refl,
    )
    (_, refl, refl) (_, refl, refl)
