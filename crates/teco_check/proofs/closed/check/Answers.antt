use Rattle.teco_check.proofs.Prelude.{◌≡◌, ◌<◌, ◌∙◌, length, Err, rules, arith, check}
use Rattle.teco_verifier.specs.table.Closed.{check_nodes}
use Rattle.teco_check.proofs.Further.{check_more, says_of}
use Rattle.teco_check.proofs.closed.check.Goals as goal

pub returns-then-not-begins-clause-value : goal.returns-then-not-begins-clause-value
unfolding check_nodes check
returns-then-not-begins-clause-value c = search rules

pub loop-at-init : goal.loop-at-init
unfolding check_nodes check
loop-at-init c = search rules

pub returns-in_err-check_at-clause-value : goal.returns-in_err-check_at-clause-value
returns-in_err-check_at-clause-value c =
    let within : c.loop-at.at < length c.args.nodes.now = omega (arith, c.len-at-end.ensures) in
    let said = says_of c.args.argument c.args.nodes.now c.args.table.now c.loop-at.at c.in_err-check_at.field-0.0 within
    c.loop-at.invariant (rw c.in_err-check_at.was at c.check_at.ensures) in
    let is : c.from_residual.result ≡ Err c.in_err-check_at.field-0.0 = search rules in
    rw is said

pub loop-at-preserved : goal.loop-at-preserved
loop-at-preserved c =
    let within : c.loop-at.at < length c.args.nodes.now = omega (arith, c.len-at-end.ensures) in
    c.loop-at.invariant ∙ check_more c.args.nodes.now c.args.table.now c.loop-at.at within
    (rw c.in_ok-check_at.was at c.check_at.ensures)
