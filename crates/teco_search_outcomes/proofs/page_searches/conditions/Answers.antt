use Rattle.teco_search_outcomes.proofs.Prelude.{◌≡◌, [], ◌∷◌, ◌++◌, Some, arith, common_steps, All-pop}
use Rattle.teco_linear.specs.Implied as linear
use Rattle.teco_search_outcomes.proofs.page_searches.conditions.Goals as goal

pub returns-clause-positive : goal.returns-clause-positive
returns-clause-positive c = λ n v h.
    let more = c.in_ok-positive.field-0 in
    let left = c.in_ok-room.field-0 in
    let items : c.push-2.new.self.items ≡ (more ∷ []) ++ left ∷ [] = grind (arith, common_steps) in
    c.in_ok-positive.ensures n v (All-pop (linear.Holds n v) _ (more ∷ []) (Some left) items h).0

pub returns-clause-room : goal.returns-clause-room
returns-clause-room c = λ n v s t h.
    let more = c.in_ok-positive.field-0 in
    let left = c.in_ok-room.field-0 in
    let items : c.push-2.new.self.items ≡ (more ∷ []) ++ left ∷ [] = grind (arith, common_steps) in
    c.in_ok-room.ensures n v s t (All-pop (linear.Holds n v) _ (more ∷ []) (Some left) items h).1
