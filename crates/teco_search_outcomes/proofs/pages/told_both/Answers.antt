use Rattle.teco_search_outcomes.proofs.Prelude.{◌≡◌, [], ◌∷◌, None, refl, arith, common_steps}
use Rattle.teco_search_outcomes.proofs.Paging.{tells_both}
use Rattle.teco_search_outcomes.proofs.pages.told_both.Goals as goal

pub returns : goal.returns
returns c =
    let items : c.push-2.new.self.items ≡ c.in_ok-first.first ∷ c.in_ok-second.second ∷ [] =
    grind (arith, common_steps) in
    tells_both c.args.one.now c.args.other.now c.in_ok-first.first c.in_ok-second.second _
    (c.in_ok-first.ensures None refl) (c.in_ok-second.ensures None refl) items
