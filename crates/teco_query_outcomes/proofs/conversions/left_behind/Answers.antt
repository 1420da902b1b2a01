use Rattle.teco_query_outcomes.proofs.Prelude.{arith, ints}
use Rattle.teco_query_outcomes.proofs.conversions.left_behind.Goals as goal

pub returns : goal.returns
returns c = λ n v s t.
    omega (
      arith,
      ints,
      c.in_ok-left.ensures n v,
      c.in_ok-free.ensures n v,
      c.in_ok-limit.ensures n v,
      c.in_ok-more.ensures n v,
      c.in_ok-size.ensures n v s t,
    )
