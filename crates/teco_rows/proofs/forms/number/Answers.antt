use Rattle.teco_rows.proofs.Prelude.{◌≡◌, ◌<◌, Some, slice_get, sym, ap, ◌∙◌, arith, common_steps, REGISTERS, value}
use Rattle.teco_rows.proofs.Prelude.{value_if, number_of}
use Rattle.teco_model.specs.Storage.{number_in}
use Rattle.teco_rows.proofs.Registering.{pair_there}
use Rattle.teco_rows.proofs.forms.number.Goals as goal

pub returns-in-Some : goal.returns-in-Some
returns-in-Some c = λ n v s h w.
    let in' : c.args.register < REGISTERS = grind (arith, common_steps) in
    let e : Some (value c.in-Some.form n v) ≡ Some (number_in c.args.register s.kept) =
    ap (λ o. value_if o n v) (sym c.in-Some.is) ∙ c.in_ok-form.ensures n v s h
    ∙ ap (λ k. number_of (slice_get s.kept.registers.pairs k)) c.index-index.ensures.value
    ∙ ap number_of (pair_there s.kept c.args.register w in') in
    cc
