use Rattle.teco_query_outcomes.proofs.Prelude.{refl, IfOk-weaker}
use Rattle.teco_query_outcomes.proofs.Reading.{gives_character}
use Rattle.teco_query_outcomes.proofs.characters.character_at.Goals as goal

pub returns : goal.returns
returns c =
    IfOk-weaker c.any_way.result _ _
    (λ all goes.
    gives_character c.args.case.now _ c.args.by goes.here all goes.level goes.cases (_, refl, refl) (_, refl, refl)
    (_, refl, refl))
    c.any_way.ensures
