use Rattle.teco_rows.proofs.Prelude.{◌≡◌, ◌<◌, Some, length, pos, slice_get, sym, ap, ◌∙◌, arith, common_steps}
use Rattle.teco_rows.proofs.Prelude.{REGISTERS, value, value_if, length_of}
use Rattle.teco_model.specs.Storage.{text_in}
use Rattle.teco_rows.proofs.Registering.{pair_there}
use Rattle.teco_rows.proofs.forms.length.Goals as goal

pub returns-in-Some : goal.returns-in-Some
returns-in-Some c = λ n v s h w.
    let in' : c.args.register < REGISTERS = grind (arith, common_steps) in
    let e : Some (value c.in-Some.form n v) ≡ Some (pos (length (text_in c.args.register s.kept))) =
    ap (λ o. value_if o n v) (sym c.in-Some.is) ∙ c.in_ok-form.ensures n v s h
    ∙ ap (λ k. length_of (slice_get s.kept.registers.pairs k)) c.index-index.ensures.value
    ∙ ap length_of (pair_there s.kept c.args.register w in') in
    cc
