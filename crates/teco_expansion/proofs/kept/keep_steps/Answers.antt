use Rattle.teco_expansion.proofs.Prelude.{IsKeptOf}
use Rattle.std.proofs.lemmas.List.Elements.{All-push}
use Rattle.teco_expansion.proofs.kept.keep_steps.Goals as goal

pub loop-step-preserved : goal.loop-step-preserved
loop-step-preserved c = λ library text at steps kept.
    rw c.in_ok-push.ensures.items (All-push (IsKeptOf library) _ _ (c.loop-step.invariant library text at steps kept)
    (rw at (steps c.loop-step.step-index _ c.loop-step-test.true)))
