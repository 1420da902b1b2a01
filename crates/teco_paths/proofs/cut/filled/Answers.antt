use Rattle.teco_paths.proofs.Prelude.{sym, ap, ◌∙◌, None, slice_index_or, pos, unwrap_or, value, value_if}
use Rattle.teco_paths.proofs.Claiming.{filled_value}
use Rattle.teco_paths.proofs.cut.filled.Goals as goal

pub returns-in-Some : goal.returns-in-Some
returns-in-Some c n v =
    ap (λ o. unwrap_or (value_if o n v) (pos 0)) (sym c.in-Some.is)
    ∙ ap (λ o. unwrap_or o (pos 0)) (c.in_ok-form.ensures n v)
    ∙ sym (filled_value (slice_index_or c.args.forms.now c.args.place None) n v)

pub returns-in-None : goal.returns-in-None
returns-in-None c n v =
    ap (λ f. value f n v) c.zero.ensures
    ∙ ap (λ o. unwrap_or (value_if o n v) (pos 0)) (sym c.in-None.is)
    ∙ ap (λ o. unwrap_or o (pos 0)) (c.in_ok-form.ensures n v)
    ∙ sym (filled_value (slice_index_or c.args.forms.now c.args.place None) n v)
