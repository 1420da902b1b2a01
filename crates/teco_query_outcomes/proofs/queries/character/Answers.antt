use Rattle.teco_query_outcomes.proofs.Prelude.{[], IfOk-weaker}
use Rattle.teco_query_outcomes.proofs.Asking.{character_asked}
use Rattle.teco_query_outcomes.proofs.queries.character.Goals as goal

pub returns : goal.returns
returns c =
    IfOk-weaker c.one.result _ _
    (λ all one.
    character_asked c.args.case.now c.in_ok-after.after c.args.register [] c.in_ok-here.here _ all c.requires
    c.in_ok-here.ensures c.in_ok-after.ensures one)
    c.one.ensures
