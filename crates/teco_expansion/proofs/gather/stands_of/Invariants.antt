use Rattle.teco_expansion.proofs.Prelude.{◌≡◌, map, take, stand_seen, visit_seen}
use Rattle.teco_verifier.specs.expansion.Expansion.{stand_of_visit}
use Rattle.teco_expansion.proofs.gather.stands_of.Given as goal

abbrev pub invariant-loop-visit : goal.invariant-loop-visit
invariant-loop-visit l =
    map (stand_seen l.texts) l.stands.items ≡ map stand_of_visit
    (map (visit_seen l.texts) (take l.visit-index l.walk.visits.items))
