use Rattle.teco_search_outcomes.proofs.Prelude.{ap, arith, ints, value}
use Rattle.teco_search_outcomes.proofs.pages.is_empty.Goals as goal

pub returns : goal.returns
returns c = λ n v s t h.
    omega (
      arith,
      ints,
      h,
      c.in_ok-size.ensures n v s t,
      ap (λ f. value f n v) c.zero-none.ensures,
      c.in_ok-left.ensures n v,
    )
