use Rattle.teco_rows.proofs.Prelude.{◌<◌, ◌≤◌, length, arith, common_steps}
use Rattle.teco_rows.proofs.Closing.{reached_first, reached_last, reached_more}
use Rattle.teco_rows.proofs.outside.outermost.Goals as goal

pub loop-done-init : goal.loop-done-init
loop-done-init c = reached_first c.args.case.now c.in_ok-outermost.outermost c.in_ok-outermost.ensures

pub loop-done-preserved : goal.loop-done-preserved
loop-done-preserved c =
    let h : c.loop-done.done < length c.args.case.now.shape.operators.items = grind (arith, common_steps) in
    reached_more c.args.case.now c.loop-done.outermost _ c.loop-done.done h c.loop-done.invariant
    c.in_ok-outermost-2.ensures

pub returns : goal.returns
returns c =
    let h : length c.args.case.now.shape.operators.items ≤ c.loop-done.done = grind (arith, common_steps) in
    reached_last c.args.case.now c.loop-done.outermost c.loop-done.done h c.loop-done.invariant
