use Rattle.teco_rows.proofs.Prelude.{ap, ◌∙◌, None, slice_index_or, value_if}
use Rattle.teco_rows.proofs.forms.measured.Goals as goal

pub returns : goal.returns
returns c = λ n v s h.
    c.in_ok-form.ensures n v ∙ ap (λ fs. value_if (slice_index_or fs c.place.result None) n v) c.deref.ensures.value
    ∙ ap (λ k. value_if (slice_index_or c.args.case.now.forms.items k None) n v) c.place.ensures
    ∙ h.fits.measures c.args.measure
