use Rattle.teco_paths.proofs.Prelude.{arith}
use Rattle.teco_paths.proofs.Lists.{same_lists}
use Rattle.teco_paths.proofs.cut.are_same_waits.Goals as goal

pub returns : goal.returns
returns c =
    same_lists c.args.one.now c.args.other.now (omega arith) (λ k d l. c.loop-at.invariant k d (omega (arith, l)))
