use Rattle.teco_paths.proofs.Prelude.{arith, ints}
use Rattle.teco_paths.proofs.Polynomials.{one_term_more}
use Rattle.teco_paths.proofs.course.form_of.Goals as goal

pub loop-at-preserved : goal.loop-at-preserved
loop-at-preserved c n v =
    omega (
      arith,
      ints,
      c.in_ok-form.ensures n v,
      c.loop-at.invariant n v,
      one_term_more c.args.polynomial.now c.loop-at.at n 0 (omega arith),
    )
