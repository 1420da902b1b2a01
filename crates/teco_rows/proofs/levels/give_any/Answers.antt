use Rattle.teco_rows.proofs.Prelude.{◌≡◌, ◌∙◌, ap, arith, false, sym, common_steps, IfOk-weaker, is_over}
use Rattle.teco_rows.proofs.Giving.{gives_any}
use Rattle.teco_rows.proofs.levels.give_any.Goals as goal

pub returns : goal.returns
returns c =
    let over : c.is_over.result ≡ false = grind (arith, common_steps) in
    IfOk-weaker c.one.result _ _
    (λ all one.
    gives_any c.args.case.now c.in_ok-after.after _ all
    (λ s h. ap is_over (sym (c.waiting.ensures s h)) ∙ sym c.is_over.ensures ∙ over) c.in_ok-after.ensures one)
    c.one.ensures
