use Rattle.teco_expansion.proofs.Prelude.{◌≡◌, map, stand_seen}
use Rattle.teco_verifier.specs.expansion.Expansion.{number_behind}
use Rattle.teco_expansion.proofs.link.number_behind.Given as goal

abbrev pub invariant-loop-at : goal.invariant-loop-at
invariant-loop-at l =
    number_behind l.number (map (stand_seen l.texts) l.stands) (stand_seen l.texts l.stand)
    ≡ number_behind l.at (map (stand_seen l.texts) l.stands) (stand_seen l.texts l.stand)
