use Rattle.teco_paths.proofs.Prelude.{◌≡◌, ◌++◌, AreSpots}
use Rattle.teco_paths.proofs.Answered.{if_ok}
use Rattle.teco_paths.proofs.Keeping.{spots_both}
use Rattle.teco_paths.proofs.steps.spots_of.Goals as goal

pub returns : goal.returns
returns c =
    if_ok (λ all. all.items ≡ c.in_ok-behind.behind.items ++ c.in_ok-elsewhere.elsewhere.items)
    (λ spots. AreSpots c.args.nodes.now c.args.number c.args.outcomes spots.items) c.joined.result
    (λ all e. spots_both c.args.nodes.now c.args.number c.args.outcomes c.in_ok-here.here.items
    c.in_ok-there.there.items c.in_ok-behind.behind.items c.in_ok-elsewhere.elsewhere.items all.items e
    c.in_ok-here.ensures c.in_ok-there.ensures c.in_ok-behind.ensures c.in_ok-elsewhere.ensures)
    c.joined.ensures
