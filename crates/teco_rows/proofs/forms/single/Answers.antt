use Rattle.teco_rows.proofs.Prelude.{◌≡◌, Some, sym, ap, ◌∙◌, value, value_if, single}
use Rattle.teco_rows.proofs.forms.single.Goals as goal

pub returns-in-Some : goal.returns-in-Some
returns-in-Some c = λ n v s h.
    let e : Some (value c.in-Some.form n v) ≡ Some (single s c.args.which) =
    ap (λ o. value_if o n v) (sym c.in-Some.is) ∙ c.in_ok-form.ensures n v s h in
    cc
