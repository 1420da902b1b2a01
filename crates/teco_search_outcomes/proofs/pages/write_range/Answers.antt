use Rattle.teco_search_outcomes.proofs.Prelude.{None, refl, subst, IfOk-weaker, All}
use Rattle.teco_linear.specs.Implied as linear
use Rattle.teco_search_outcomes.proofs.Paging.{writes_range}
use Rattle.teco_search_outcomes.proofs.pages.write_range.Goals as goal

pub returns : goal.returns
returns c =
    IfOk-weaker c.one.result _ _
    (λ all one.
    writes_range c.args.case.now c.in_ok-after.after c.args.first.now c.args.second.now _ all
    (c.in_ok-after.ensures None refl) one
    (λ n v s t h. c.in_ok-conditions.ensures n v s t (subst (All (linear.Holds n v)) one.conditions h)))
    c.one.ensures
