use Rattle.teco_rows.proofs.Prelude.{◌∙◌, None, ap, arith, refl, slice_index_or, subst, sym, common_steps, All}
use Rattle.teco_rows.proofs.Prelude.{value_if}
use Rattle.teco_linear.specs.Implied.{Holds}
use Rattle.teco_rows.proofs.Closing.{is_copy}
use Rattle.teco_rows.proofs.outside.copied.Goals as goal

pub returns : goal.returns
returns c =
    is_copy c.args.case.now _
    (λ n v k. c.in_ok-forms.ensures n v k ∙ ap (λ fs. value_if (slice_index_or fs k None) n v) c.deref.ensures.value)
    (λ n v h. c.in_ok-constraints.ensures n v (subst (All (Holds n v)) (sym c.deref-2.ensures.value) h))
    (grind (arith, common_steps)) refl refl
