use Rattle.teco_motion_outcomes.proofs.Prelude.{◌≡◌, [], ◌∷◌, ◌∙◌, ap, arith, ◌-ℤ◌, common_steps, value}
use Rattle.teco_motion_outcomes.proofs.Placing.{placed_both}
use Rattle.teco_motion_outcomes.proofs.motions.both_in_buffer.Goals as goal

pub returns : goal.returns
returns c = λ n v s t.
    let items : c.push-4.new.self.items
    ≡ c.in_ok-least.least ∷ c.in_ok-most.most ∷ c.in_ok-other_least.other_least ∷ c.in_ok-other_most.other_most ∷ [] =
    grind (arith, common_steps) in
    let size = c.in_ok-size.ensures n v s t in
    placed_both s.kept.text n v c.args.first.now c.args.second.now _ _ _ _ c.push-4.new.self.items items
    (c.in_ok-least.ensures n v) (c.in_ok-most.ensures n v ∙ ap (λ z. z -ℤ value c.args.first.now n v) size)
    (c.in_ok-other_least.ensures n v) (c.in_ok-other_most.ensures n v ∙ ap (λ z. z -ℤ value c.args.second.now n v) size)
