use Rattle.teco_facts.proofs.Prelude.{sym, false}
use Rattle.teco_facts.proofs.Popping.{popped}
use Rattle.teco_facts.proofs.stack.pop.Goals as goal

pub returns-else-above : goal.returns-else-above
returns-else-above c =
    let pops = rw c.in-Some.is at c.in_ok-popped.ensures in
    rw c.if-library.false
    (sym (popped c.args.register c.args.facts _ c.in-Some.pair _ _ false c.pushed.ensures pops.0 pops.1
    c.if-above.ensures))
