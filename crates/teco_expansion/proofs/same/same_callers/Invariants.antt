use Rattle.teco_expansion.proofs.Prelude.{◌≡◌, map, drop, same_spots, listed, spot_seen}
use Rattle.teco_expansion.proofs.same.same_callers.Given as goal

abbrev pub invariant-loop-at : goal.invariant-loop-at
invariant-loop-at l =
    let seen = spot_seen l.texts in
    same_spots (map seen (listed l.first)) (map seen (listed l.second))
    ≡ same_spots (map seen (drop l.at (listed l.first))) (map seen (drop l.at (listed l.second)))
