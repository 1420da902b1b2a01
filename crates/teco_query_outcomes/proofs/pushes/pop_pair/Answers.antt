use Rattle.teco_query_outcomes.proofs.Prelude.{IfOk-weaker}
use Rattle.teco_query_outcomes.proofs.Pushing.{pop_foretold}
use Rattle.teco_query_outcomes.proofs.pushes.pop_pair.Goals as goal

pub returns : goal.returns
returns c =
    IfOk-weaker c.one.result _ _
    (λ all one.
    pop_foretold c.args.case.now c.in_ok-after.after c.args.register _ all c.in_ok-after.ensures one)
    c.one.ensures
