use Rattle.teco_rows.proofs.Prelude.{arith, common_steps}
use Rattle.teco_rows.proofs.Pending.{depth}
use Rattle.teco_rows.proofs.levels.at_level.Goals as goal

pub returns-in-Ok : goal.returns-in-Ok
returns-in-Ok c = λ s h. let d = depth c.args.case.now.shape s h in grind (arith, common_steps)
