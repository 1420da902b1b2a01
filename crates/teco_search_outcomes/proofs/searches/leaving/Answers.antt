use Rattle.teco_search_outcomes.proofs.Prelude.{◌≡◌, [], ◌∷◌, None, refl, arith, common_steps}
use Rattle.teco_search_outcomes.proofs.Seeking.{leaves_both}
use Rattle.teco_search_outcomes.proofs.searches.leaving.Goals as goal

pub returns-clause-leaves : goal.returns-clause-leaves
returns-clause-leaves c =
    let behind : c.push.new.self.items ≡ c.in_ok-behind.behind ∷ [] = grind (arith, common_steps) in
    let gone : c.push-2.new.self.items ≡ c.in_ok-gone.gone ∷ [] = grind (arith, common_steps) in
    leaves_both c.args.found.now c.args.missed.now c.in_ok-late.late c.in_ok-behind.behind c.in_ok-gone.gone [] _
    (c.in_ok-behind.ensures None refl) c.in_ok-late.ensures c.in_ok-gone.ensures behind gone
