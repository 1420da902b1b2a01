use Rattle.std.proofs.Common.{◌≡◌, [], drop}
use Rattle.teco_console.specs.Sources.{lines_behind}
use Rattle.teco_console.proofs.reading.joined.Given as goal

-- what is still to come makes the lines of all
abbrev pub invariant-loop-text : goal.invariant-loop-text
invariant-loop-text l = lines_behind l.lines.items (drop l.text-index l.texts) ≡ lines_behind [] l.fn.texts
