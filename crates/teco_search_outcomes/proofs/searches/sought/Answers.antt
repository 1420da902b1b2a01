use Rattle.teco_search_outcomes.proofs.Prelude.{◌≡◌, [], ◌∷◌, sym, subst, arith, common_steps, ints, All-head, All, Aim}
use Rattle.teco_search_outcomes.proofs.Prelude.{Aims}
use Rattle.teco_linear.specs.Implied as linear
use Rattle.teco_search_outcomes.proofs.Seeking.{aims_ahead, aims_known, aims_once}
use Rattle.teco_search_outcomes.proofs.searches.sought.Goals as goal

pub returns-in_default : goal.returns-in_default
returns-in_default c =
    let aim : Aim = record { direction = c.directed-direction.result; conditions = c.new-conditions.result } in
    subst (λ o. Aims o c.args.colons aim) (sym c.in_default.is)
    (aims_once c.args.colons aim c.directed-direction.ensures)

pub returns-in-Some-known : goal.returns-in-Some-known
returns-in-Some-known c =
    let aim : Aim = record {
      direction = c.directed-direction-in-Some-known.result;
      conditions =
          c.new-conditions.result;
    } in
    subst (λ o. Aims o c.args.colons aim) (sym c.in-Some.is)
    (aims_known c.in-Some.form _ _ c.args.colons aim c.directed-direction-in-Some-known.ensures c.in-Some-known.ensures
    (λ so. grind (arith, ints, common_steps)) (λ so. grind (arith, ints, common_steps, c.in-Some-known.number-is)))

pub returns-in_ok-push-in-None : goal.returns-in_ok-push-in-None
returns-in_ok-push-in-None c =
    let aim : Aim = record { direction = c.directed-direction-in-None.result; conditions = c.push.new.self } in
    let items : c.push.new.self.items ≡ c.in_ok-sub-in-None.field-0 ∷ [] = grind (arith, common_steps) in
    subst (λ o. Aims o c.args.colons aim) (sym c.in-Some.is)
    (aims_ahead c.in-Some.form c.args.colons aim c.directed-direction-in-None.ensures (λ n v h.
    let P = linear.Holds n v in
    let holds = All-head P c.in_ok-sub-in-None.field-0 [] (subst (All P) items h) in
    omega (arith, ints, holds, c.in_ok-sub-in-None.ensures n v, c.in_ok-least-in-None.ensures n v)))
