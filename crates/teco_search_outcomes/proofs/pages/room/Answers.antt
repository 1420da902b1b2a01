use Rattle.teco_search_outcomes.proofs.Prelude.{arith, ints}
use Rattle.teco_search_outcomes.proofs.pages.room.Goals as goal

pub returns : goal.returns
returns c = λ n v s t h.
    omega (
      arith,
      ints,
      h,
      c.in_ok-size.ensures n v s t,
      c.in_ok-held.ensures n v s t,
      c.in_ok-most.ensures n v,
      c.in_ok-unread.ensures n v,
      c.in_ok-left.ensures n v,
    )
