use Rattle.teco_search_outcomes.proofs.Prelude.{arith, common_steps, IfOk-weaker}
use Rattle.teco_search_outcomes.proofs.Searching.{misses, misses_here}
use Rattle.teco_search_outcomes.proofs.searches.missed.Goals as goal

pub returns-then-colons-ge2 : goal.returns-then-colons-ge2
returns-then-colons-ge2 c =
    IfOk-weaker c.changed.result _ _
    (λ made changes. misses_here c.args.case.now made c.args.colons (grind (arith, common_steps)) changes)
    c.changed.ensures

pub returns-else-colons-ge2 : goal.returns-else-colons-ge2
returns-else-colons-ge2 c =
    IfOk-weaker c.changed-else-colons-ge2.result _ _
    (λ made changes. misses c.args.case.now made c.args.colons (grind (arith, common_steps)) changes)
    c.changed-else-colons-ge2.ensures
