use Rattle.teco_rows.proofs.Prelude.{ap, sym, ◌∙◌, pos, unwrap_or, value, value_if}
use Rattle.teco_rows.proofs.Pending.{value_there}
use Rattle.teco_rows.proofs.levels.left_value.Goals as goal

pub returns-in-Some : goal.returns-in-Some
returns-in-Some c = λ n v s h.
    ap (λ o. unwrap_or o (pos 0))
    (ap (λ o. value_if o n v) (sym c.in-Some.is) ∙ c.in_ok-value.ensures n v s h ∙ value_there s)

pub returns-in-None : goal.returns-in-None
returns-in-None c = λ n v s h.
    ap (λ f. value f n v) c.zero.ensures
    ∙ ap (λ o. unwrap_or o (pos 0))
    (ap (λ o. value_if o n v) (sym c.in-None.is) ∙ c.in_ok-value.ensures n v s h ∙ value_there s)
