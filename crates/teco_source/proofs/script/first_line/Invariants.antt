use Rattle.std.proofs.Common.{◌≡◌, ◌+◌, drop}
use Rattle.teco_source.specs.Scripts.{first_line}
use Rattle.teco_source.proofs.script.first_line.Given as goal

-- no line end was met
abbrev pub invariant-loop-i : goal.invariant-loop-i
invariant-loop-i l = l.i + first_line (drop l.i l.file) ≡ first_line l.file
