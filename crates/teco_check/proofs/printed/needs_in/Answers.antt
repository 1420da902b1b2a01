use Rattle.teco_check.proofs.Prelude.{◌≡◌, ◌≤◌, length, refl, arith}
use Rattle.teco_verifier.specs.table.Printed.{needs_in}
use Rattle.teco_check.proofs.Further.{needs_more}
use Rattle.teco_check.proofs.printed.needs_in.Goals as goal

pub loop-at-preserved : goal.loop-at-preserved
loop-at-preserved c =
    let within : c.loop-at.at ≤ length c.args.nodes.now = omega (arith, c.len-at.ensures) in
    rw (c.both_needs-needs.ensures, c.needs_at.ensures)
    (needs_more c.args.nodes.now c.args.table.now c.loop-at.at c.loop-at.needs
    (omega arith) within c.loop-at.invariant)

pub returns : goal.returns
unfolding needs_in
returns c =
    let none : c.loop-at.at ≡ 0 = omega arith in
    rw (c.loop-at.invariant, none) refl
