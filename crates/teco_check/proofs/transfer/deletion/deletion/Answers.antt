use Rattle.teco_check.proofs.Prelude.{◌≡◌, sym, ap, ◌∙◌, Err, rules}
use Rattle.teco_check.proofs.Deleted.{deletes_by, left_by}
use Rattle.teco_check.proofs.transfer.deletion.deletion.Goals as goal

pub returns-in_err-shift : goal.returns-in_err-shift
returns-in_err-shift c =
    let taken = c.args.taken in
    let is : c.from_residual.result ≡ Err c.in_err-shift.field-0.0 = search rules in
    is ∙ sym (deletes_by c.args.unit taken.first taken.value c.args.facts
    ∙ ap (left_by c.args.facts) (rw c.margins.ensures at (sym c.shift_of.ensures ∙ c.in_err-shift.was)))
