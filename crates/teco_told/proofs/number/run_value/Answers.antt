use Rattle.std.proofs.Common.{◌≡◌, rules, take, w32, to_z}
use Rattle.std.proofs.lemmas.Int.{to_z-of_z}
use Rattle.teco_model.specs.Arguments.{run_value}
use Rattle.teco_model.proofs.Digits.{run_value-more}
use Rattle.teco_told.proofs.number.run_value.Goals as goal

pub loop-digit-preserved : goal.loop-digit-preserved
loop-digit-preserved c =
    let more = run_value-more c.args.digits.now c.loop-digit.digit-index c.loop-digit-test.true in
    let so_far : to_z w32 c.loop-digit.value-bits ≡ run_value (take c.loop-digit.digit-index c.args.digits.now) =
    c.loop-digit.invariant in
    let product = to_z-of_z w32 c.mul.result (search rules) in
    let digit = to_z-of_z w32 c.from.result (search rules) in
    let sum = to_z-of_z w32 c.add-value.result (search rules) in
    cc (c.add-value.ensures, c.mul.ensures, c.from.ensures, c.saturating_sub.ensures)
