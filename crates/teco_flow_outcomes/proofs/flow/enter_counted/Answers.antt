use Rattle.teco_flow_outcomes.proofs.Prelude.{◌≡◌, [], ◌∷◌, arith, slice_index_or, sym, subst, inl, common_steps}
use Rattle.teco_flow_outcomes.proofs.Prelude.{IsInOne}
use Rattle.teco_flow_outcomes.proofs.Branching.{enters_counted}
use Rattle.teco_flow_outcomes.proofs.flow.enter_counted.Goals as goal

pub returns : goal.returns
returns c =
    let one : c.push.new.self.items ≡ c.in_ok-counted.field-0 ∷ [] = grind (arith, common_steps) in
    enters_counted c.args.case.now c.in_ok-counted.field-0 (slice_index_or c.args.number.now 0 []) c.only.result _ _
    c.in_ok-counted.ensures one
    (λ x h. subst (λ r. IsInOne r x) (sym c.only.ensures) (inl h)) c.in_ok-away.ensures
