use Rattle.teco_query_outcomes.proofs.Prelude.{refl, sym}
use Rattle.teco_query_outcomes.proofs.Pushing.{is_stacked}
use Rattle.teco_query_outcomes.proofs.pushes.with_pushes.Goals as goal

pub returns : goal.returns
returns c =
    is_stacked c.args.case.now c.in_ok-made.made c.args.step.now _ c.args.pushes c.waiting.result
    (λ s h. sym (c.waiting.ensures s h)) c.in_ok-made.ensures.carries c.in_ok-made.ensures.shape
    c.in_ok-shape.ensures.operators c.in_ok-shape.ensures.iterations refl
