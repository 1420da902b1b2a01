use Rattle.teco_outcomes.proofs.Prelude.{arith, common_steps, IfOk-weaker, seen}
use Rattle.teco_search_outcomes.proofs.Seeking.{colon_law}
use Rattle.teco_outcomes.proofs.elements.search_with_colon.Goals as goal

pub returns : goal.returns
returns c =
    IfOk-weaker c.search.result _ _
    (λ all told is.
    colon_law (seen c.args.element.now) c.args.case.now all (grind (arith, common_steps)) (told is))
    c.search.ensures
