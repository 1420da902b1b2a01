use Rattle.teco_query_outcomes.proofs.Prelude.{◌≡◌, ◌++◌, ◌∷◌, [], ◌∙◌, ap, arith, subst, sym, common_steps, ints, All}
use Rattle.teco_linear.specs.Implied as linear
use Rattle.teco_query_outcomes.proofs.Converting.{are_within}
use Rattle.teco_query_outcomes.proofs.conversions.bounded.Goals as goal

pub returns : goal.returns
returns c =
    let others = c.in_ok-constraints.constraints.items in
    let above = c.in_ok-above.above in
    let below = c.in_ok-below.below in
    let one : c.push.new.self.items ≡ others ++ above ∷ [] = grind (arith, common_steps) in
    let two : c.push-2.new.self.items ≡ c.push.new.self.items ++ below ∷ [] = grind (arith, common_steps) in
    are_within c.args.case.now c.args.number.now c.args.span above below others c.push-2.new.self.items
    (λ n v h. c.in_ok-constraints.ensures n v (subst (All (linear.Holds n v)) (sym c.deref.ensures.value) h))
    (λ n v. omega (arith, ints, c.in_ok-above.ensures n v, c.in_ok-least.ensures n v))
    (λ n v. omega (arith, ints, c.in_ok-below.ensures n v, c.in_ok-most.ensures n v))
    (two ∙ ap (λ xs. xs ++ below ∷ []) one)
