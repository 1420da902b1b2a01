use Rattle.teco_rows.proofs.Prelude.{◌≡◌, sym, ap, ◌∙◌, None, arith, common_steps, IfOk-weaker, value_if}
use Rattle.teco_rows.proofs.Pending.{value_there}
use Rattle.teco_rows.proofs.Commanding.{final_alone, final_signed}
use Rattle.teco_rows.proofs.commands.final_value.Goals as goal

pub returns-in-None : goal.returns-in-None
returns-in-None c = λ n v s h.
    final_alone s.arguments.level _ (sym (c.waiting.ensures s h.shape) ∙ c.in-None.is)
    (sym (c.in_ok-value.ensures n v s h ∙ value_there s))

pub returns-in-Some : goal.returns-in-Some
returns-in-Some c =
    let none : c.in_ok-value.value ≡ None = grind (arith, common_steps) in
    IfOk-weaker c.sign.result _ _
    (λ form signed n v s h.
    final_signed s.arguments.level c.in-Some.operator _ (sym (c.waiting.ensures s h.shape) ∙ c.in-Some.is)
    (sym (c.in_ok-value.ensures n v s h ∙ value_there s) ∙ ap (λ o. value_if o n v) none) (signed n v))
    c.sign.ensures
