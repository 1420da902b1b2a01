use Rattle.std.proofs.Common.{◌≡◌, ◌++◌, length}
use Rattle.teco_source.specs.Source.{said, said_behind}
use Rattle.teco_source.proofs.form.EscapeForm.read.Given as goal

-- what was said, and what is said from here on, are all
abbrev pub invariant-loop-byte : goal.invariant-loop-byte
invariant-loop-byte l = l.text.items ++ said_behind l.self l.before l.rest ≡ said l.self l.source

abbrev pub decreases-loop-byte : goal.decreases-loop-byte
decreases-loop-byte l = length l.rest
