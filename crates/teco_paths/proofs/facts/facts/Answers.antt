use Rattle.teco_paths.proofs.Prelude.{None, get_or, arith, pos, Difference, ORDER, IsFact}
use Rattle.teco_paths.proofs.Always.{bound_fact, in_order}
use Rattle.teco_paths.proofs.Lists.{all_last}
use Rattle.teco_paths.proofs.facts.facts.Goals as goal

pub loop-at-preserved : goal.loop-at-preserved
loop-at-preserved c =
    let none : Difference = record { left = None; right = None; most = pos 0 } in
    all_last (IsFact c.args.size.now) c.loop-at.facts.items c.push-in-loop-at.new.self.items c.in_ok-bound.field-0
    c.in_ok-push-2.ensures.items c.loop-at.invariant
    (bound_fact c.args.size.now c.in_ok-bound.field-0 (get_or ORDER c.loop-at.at none)
    (in_order c.loop-at.at none (omega arith)) c.in_ok-bound.ensures)
