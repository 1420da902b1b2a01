use Rattle.teco_check.proofs.Prelude.{◌<◌, sym, ◌∙◌, length, refl, arith, size}
use Rattle.teco_check.proofs.Further.{size_more, size_fails}
use Rattle.teco_check.proofs.printed.size.Goals as goal

pub loop-at-init : goal.loop-at-init
unfolding size
loop-at-init c = rw c.number-most.ensures refl

pub returns-in-Err-clause-value : goal.returns-in-Err-clause-value
returns-in-Err-clause-value c =
    let within : c.loop-at.at < length c.args.nodes.now = omega (arith, c.len-at-end.ensures) in
    c.loop-at.invariant ∙ size_fails c.args.nodes.now c.args.table.now c.loop-at.at c.loop-at.most c.in-Err.field-0
    within (rw c.facts_behind.ensures.value at (sym c.sized_with.ensures ∙ c.in-Err.is))

pub loop-at-preserved : goal.loop-at-preserved
loop-at-preserved c =
    let within : c.loop-at.at < length c.args.nodes.now = omega (arith, c.len-at-end.ensures) in
    c.loop-at.invariant ∙ size_more c.args.nodes.now c.args.table.now c.loop-at.at c.loop-at.most c.in-Ok.more within
    (rw c.facts_behind.ensures.value at (sym c.sized_with.ensures ∙ c.in-Ok.is))
