use Rattle.teco_rows.proofs.Prelude.{◌≡◌, sym, ◌∙◌, arith, false, ◌&&◌, is_some, is_none, common_steps}
use Rattle.teco_rows.proofs.Pending.{first_there}
use Rattle.teco_rows.proofs.Commanding.{taken_is, not_alone}
use Rattle.teco_rows.proofs.commands.take_arguments.Goals as goal

pub returns : goal.returns
returns c = λ n v s h.
    let both : (is_some c.in_ok-first.first && is_none c.in_ok-value.value) ≡ false = grind (arith, common_steps) in
    taken_is s.arguments.level _ _ (sym (c.in_ok-first.ensures n v s h ∙ first_there s)) (c.in_ok-value.ensures n v s h)
    (not_alone c.in_ok-first.first c.in_ok-value.value n v both)
