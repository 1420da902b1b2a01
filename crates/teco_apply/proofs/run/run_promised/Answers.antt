use Rattle.teco_apply.proofs.Touched.{touches-none-loaded}
use Rattle.teco_apply.proofs.run.run_promised.Goals as goal

pub returns-clause-touches : goal.returns-clause-touches
returns-clause-touches g c =
    touches-none-loaded c.args.call.now c.args.machine.now c.make_ready.new.machine c.call_promised.new.machine _ _
    c.in_ok-make_ready.ensures.loaded c.call_promised.ensures.touches
