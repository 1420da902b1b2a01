use Rattle.teco_flow_outcomes.proofs.Prelude.{refl}
use Rattle.teco_flow_outcomes.proofs.Turning.{has_iterations}
use Rattle.teco_flow_outcomes.proofs.flow.with_iterations.Goals as goal

pub returns : goal.returns
returns c =
    has_iterations c.args.case.now c.in_ok-made.made c.args.step.now _ c.args.iterations c.in_ok-made.ensures.carries
    c.in_ok-made.ensures.shape c.in_ok-shape.ensures.operators refl c.in_ok-shape.ensures.pushes
