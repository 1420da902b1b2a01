use Rattle.teco_check.proofs.Prelude.{◌≡◌, ◌∙◌, ◌<◌, Err, length, rules, refl, arith, RowIsKept}
use Rattle.teco_check.proofs.Arriving.{all_derived, begun, row_more, row_said, row_told}
use Rattle.teco_check.proofs.Keeping.{one_more}
use Rattle.teco_check.proofs.Outside.{row_small}
use Rattle.teco_check.proofs.derivation.derive.Goals as goal

pub loop-at-init : goal.loop-at-init
loop-at-init c = (
  rw c.new-table.ensures (begun c.args.argument c.args.nodes.now c.args.chosen.now c.in-Ok.arrived
      (c.in-Ok.ensures ∙ rw c.len.ensures refl)),
  rw c.new-table.ensures tt,
)

pub returns-in_err-row-clause-value : goal.returns-in_err-row-clause-value
returns-in_err-row-clause-value c =
    let within : c.loop-at.at < length c.args.nodes.now = omega (arith, c.len-at-end.ensures) in
    let said = row_said c.args.argument c.args.nodes.now c.args.chosen.now c.loop-at.at c.loop-at.arrived
    c.row_at.new.arrived c.loop-at.table c.in_err-row.field-0.0 within c.loop-at.invariant.0
    (rw c.in_err-row.was at c.row_at.ensures.value) in
    let is : c.from_residual.result ≡ Err c.in_err-row.field-0.0 = search rules in
    rw is said

pub returns-in_err-row-clause-told : goal.returns-in_err-row-clause-told
returns-in_err-row-clause-told c =
    let within : c.loop-at.at < length c.args.nodes.now = omega (arith, c.len-at-end.ensures) in
    let told = row_told c.args.argument c.args.nodes.now c.args.chosen.now c.loop-at.at c.loop-at.arrived
    c.row_at.new.arrived c.loop-at.table c.in_err-row.field-0.0 within c.loop-at.invariant.0
    (rw c.in_err-row.was at c.row_at.ensures.value) in
    let is : c.from_residual.result ≡ Err c.in_err-row.field-0.0 = search rules in
    rw is told

pub returns-in_err-row-clause-small : goal.returns-in_err-row-clause-small
returns-in_err-row-clause-small c = λ none.
    let within : c.loop-at.at < length c.args.nodes.now = omega (arith, c.len-at-end.ensures) in
    let small = row_small c.args.argument c.args.nodes.now c.args.chosen.now c.loop-at.at c.loop-at.arrived
    c.loop-at.table c.in_err-row.field-0.0 within none c.loop-at.invariant.0
    (rw c.in_err-row.was at c.row_at.ensures.large) in
    let is : c.from_residual.result ≡ Err c.in_err-row.field-0.0 = search rules in
    rw is small

pub loop-at-preserved : goal.loop-at-preserved
loop-at-preserved c =
    let within : c.loop-at.at < length c.args.nodes.now = omega (arith, c.len-at-end.ensures) in
    let more = row_more c.args.argument c.args.nodes.now c.args.chosen.now c.loop-at.at c.loop-at.arrived
    c.row_at.new.arrived c.loop-at.table c.in_ok-row.row within c.loop-at.invariant.0
    (rw c.in_ok-row.was at c.row_at.ensures.value) in
    let kept : RowIsKept c.in_ok-row.row = rw c.in_ok-row.was at c.row_at.ensures.kept in (
      rw c.in-Ok-push.ensures more,
      rw c.in-Ok-push.ensures
          (one_more c.loop-at.table c.in_ok-row.row c.loop-at.invariant.1 kept),
    )

pub returns-clause-value : goal.returns-clause-value
returns-clause-value c =
    all_derived c.args.argument c.args.nodes.now c.args.chosen.now c.loop-at.at c.loop-at.arrived c.loop-at.table
    (omega (arith, c.len-at-end.ensures)) c.loop-at.invariant.0

pub returns-clause-kept : goal.returns-clause-kept
returns-clause-kept c = c.loop-at.invariant.1
