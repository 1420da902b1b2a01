use Rattle.teco_expansion.proofs.Prelude.{◌≡◌, map, position_seen, stand_seen}
use Rattle.teco_expansion.specs.Linking.{has_place}
use Rattle.teco_expansion.proofs.link.any_place.Given as goal

abbrev pub invariant-loop-at : goal.invariant-loop-at
invariant-loop-at l =
    has_place l.number (map (stand_seen l.texts) l.stands) (position_seen l.texts l.position)
    ≡ has_place l.at (map (stand_seen l.texts) l.stands) (position_seen l.texts l.position)
