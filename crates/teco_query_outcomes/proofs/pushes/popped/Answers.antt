use Rattle.teco_query_outcomes.proofs.Prelude.{refl, arith, common_steps, IfOk-weaker}
use Rattle.teco_query_outcomes.proofs.Pushing.{is_popped}
use Rattle.teco_query_outcomes.proofs.pushes.popped.Goals as goal

pub returns : goal.returns
returns c =
    IfOk-weaker c.with_pushes.result _ _
    (λ made stacked.
    is_popped c.args.case.now made _ c.args.register _ stacked refl c.in_ok-here.ensures.register
    c.in_ok-here.ensures.within c.in_ok-here.ensures.push (grind (arith, common_steps)))
    c.with_pushes.ensures
