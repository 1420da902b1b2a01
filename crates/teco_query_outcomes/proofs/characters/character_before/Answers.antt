use Rattle.teco_query_outcomes.proofs.Prelude.{refl, IfOk-weaker}
use Rattle.teco_query_outcomes.proofs.Reading.{character_before}
use Rattle.teco_query_outcomes.proofs.characters.character_before.Goals as goal

pub returns : goal.returns
returns c =
    IfOk-weaker c.any_way.result _ _
    (λ all goes.
    character_before c.args.case.now _ goes.here all goes.level goes.cases (_, refl, refl) (_, refl, refl)
    (_, refl, refl) (_, refl, refl))
    c.any_way.ensures
