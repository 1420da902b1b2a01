use Rattle.teco_paths.proofs.Prelude.{arith, ints}
use Rattle.teco_paths.proofs.Beginning.{lengths_more}
use Rattle.teco_paths.proofs.entry.most_in_all.Goals as goal

pub loop-register-preserved : goal.loop-register-preserved
loop-register-preserved c n v =
    omega (
      arith,
      ints,
      c.in_ok-form-2.ensures n v,
      c.in_ok-length.ensures n v,
      c.loop-register.invariant n v,
      lengths_more c.args.used.now v c.loop-register.register,
    )
