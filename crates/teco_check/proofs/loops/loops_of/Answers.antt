use Rattle.teco_check.proofs.Prelude.{◌<◌, length, refl, arith, loops_of}
use Rattle.teco_check.proofs.Lines.{one_more, no_more}
use Rattle.teco_check.proofs.loops.loops_of.Goals as goal

pub loop-at-init : goal.loop-at-init
unfolding loops_of
loop-at-init c = rw c.new-loops.ensures.items refl

pub loop-at-preserved : goal.loop-at-preserved
loop-at-preserved c =
    let within : c.loop-at.at < length c.args.nodes.now = omega (arith, c.len-at-end.ensures) in
    let more = one_more c.args.nodes.now c.args.table.now c.loop-at.at c.loop-at.loops.items c.loop-at.invariant within
    c.in_ok-line_at.field-0 c.in_ok-line_at.ensures in
    rw (c.in_ok-add_line.ensures) more

pub returns : goal.returns
returns c = no_more c.args.nodes.now c.args.table.now c.loop-at.at c.loop-at.loops.items c.loop-at.invariant
    (omega (arith, c.len-at-end.ensures))
