use Rattle.std.proofs.Common.{◌≡◌, ◌≤◌, ◌+◌, drop}
use Rattle.teco_source.specs.Places.{behind_all}
use Rattle.teco_source.proofs.position.LineAndByte.of.Given as goal

-- the position is that behind the bytes so far
abbrev pub invariant-loop-i : goal.invariant-loop-i
invariant-loop-i l =
    (behind_all (drop l.i l.front) (record { line = l.position-inside.line; column = l.position-inside.column })
    ≡ behind_all l.front (record { line = 1; column = 1 }))
    × (l.position-inside.line ≤ l.i + 1) × (l.position-inside.column ≤ l.i + 1)
