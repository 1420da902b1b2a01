use Rattle.teco_motion_outcomes.proofs.Prelude.{◌≡◌, [], ◌∷◌, ◌∙◌, ap, arith, ◌-ℤ◌, common_steps, value}
use Rattle.teco_motion_outcomes.proofs.Placing.{placed}
use Rattle.teco_motion_outcomes.proofs.motions.in_buffer.Goals as goal

pub returns : goal.returns
returns c = λ n v s t.
    let items : c.push-2.new.self.items ≡ c.in_ok-least.least ∷ c.in_ok-most.most ∷ [] = grind (arith, common_steps) in
    let size = c.in_ok-size.ensures n v s t in
    placed s.kept.text n v c.args.place.now _ _ c.push-2.new.self.items items
    (ap (λ form. value form n v) c.in_ok-least.ensures)
    (c.in_ok-most.ensures n v ∙ ap (λ z. z -ℤ value c.args.place.now n v) size)
