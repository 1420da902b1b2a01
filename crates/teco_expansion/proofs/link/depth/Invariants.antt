use Rattle.teco_expansion.proofs.Prelude.{◌≡◌, ◌+◌, ◌≤◌, ◌*◌, depth, listed, position_seen}
use Rattle.teco_expansion.proofs.Depths.{left_from}
use Rattle.teco_expansion.proofs.link.depth.Given as goal

abbrev pub invariant-loop-at : goal.invariant-loop-at
invariant-loop-at l =
    (l.count + left_from l.texts (listed l.position.callers) l.at ≡ depth (position_seen l.texts l.position))
    × (l.count ≤ 7 * (l.at + 1))
