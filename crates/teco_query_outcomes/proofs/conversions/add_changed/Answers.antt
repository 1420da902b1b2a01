use Rattle.teco_query_outcomes.proofs.Prelude.{◌≡◌, ◌++◌, ◌∷◌, [], arith, common_steps}
use Rattle.teco_query_outcomes.proofs.conversions.add_changed.Goals as goal

pub returns : goal.returns
returns c =
    let made = c.in_ok-made.made in
    let items : c.push.new.self.items ≡ c.args.cases.now.items ++ made ∷ [] = grind (arith, common_steps) in
    record { made = made; changes = c.in_ok-made.ensures; items = items }
