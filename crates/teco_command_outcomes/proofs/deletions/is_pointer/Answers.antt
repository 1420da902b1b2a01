use Rattle.teco_command_outcomes.proofs.Prelude.{arith, ints}
use Rattle.teco_command_outcomes.proofs.deletions.is_pointer.Goals as goal

pub returns : goal.returns
returns c = λ h n v s t.
    omega (
      arith,
      ints,
      c.is_number.ensures h n v,
      c.in_ok-apart.ensures n v,
      c.in_ok-pointer.ensures n v s t,
    )
