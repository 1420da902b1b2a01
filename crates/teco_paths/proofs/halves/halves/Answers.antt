use Rattle.teco_paths.proofs.Prelude.{All, Course, LeadsOn}
use Rattle.teco_paths.proofs.Answered.{if_ok}
use Rattle.teco_paths.specs.Steps.{AreHalves}
use Rattle.teco_paths.proofs.halves.halves.Goals as goal

pub returns : goal.returns
returns c =
    if_ok
    (λ spots. AreHalves c.in_ok-apart.apart.ahead c.in_ok-apart.apart.end → (course : Course)
    → All (LeadsOn course) spots.items → LeadsOn course c.args.spot.now)
    (λ spots. (course : Course) → All (LeadsOn course) spots.items → LeadsOn course c.args.spot.now)
    c.spots_with.result (λ spots leads. leads c.in_ok-apart.ensures) c.spots_with.ensures
