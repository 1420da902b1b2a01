use Rattle.teco_search_outcomes.proofs.Prelude.{[], arith, ints, All-head}
use Rattle.teco_linear.specs.Implied as linear
use Rattle.teco_search_outcomes.proofs.page_searches.positive.Goals as goal

pub returns : goal.returns
returns c = λ n v h.
    let holds = All-head (linear.Holds n v) c.in_ok-more.more [] h in
    omega (
      arith,
      ints,
      holds,
      c.in_ok-more.ensures n v,
      c.in_ok-least.ensures n v,
      c.in_ok-count.ensures n v,
    )
