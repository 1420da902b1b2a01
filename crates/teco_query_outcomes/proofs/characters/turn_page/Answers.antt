use Rattle.teco_query_outcomes.proofs.Prelude.{ap, ◌∙◌, IfOk-weaker}
use Rattle.teco_model.specs.declared.kind.Kind.TheVariants as kind
use Rattle.teco_query_outcomes.proofs.Reading.{character_law}
use Rattle.teco_query_outcomes.proofs.characters.turn_page.Goals as goal

pub returns-in-Some : goal.returns-in-Some
returns-in-Some c =
    IfOk-weaker c.answer_code.result _ _
    (λ all gives e is.
    character_law e c.args.case.now c.in_ok-taken.taken c.in-Some.by all (is ∙ ap kind.Page c.in-Append.is)
    c.in_ok-taken.ensures c.in-Some.is gives)
    c.answer_code.ensures
