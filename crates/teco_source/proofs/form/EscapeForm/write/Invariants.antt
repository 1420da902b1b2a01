use Rattle.std.proofs.Common.{◌≡◌, ◌++◌, length}
use Rattle.teco_source.specs.Source.{spelled, has_source, has_source_behind}
use Rattle.teco_source.proofs.form.EscapeForm.write.Given as goal

-- what was written, and what is written from here on, are all; that there is a source rests on what is left
abbrev pub invariant-loop-byte : goal.invariant-loop-byte
invariant-loop-byte l =
    (l.written.items ++ spelled l.self l.rest ≡ spelled l.self l.text)
    × (has_source_behind l.self l.before l.rest ≡ has_source l.self l.text)

abbrev pub decreases-loop-byte : goal.decreases-loop-byte
decreases-loop-byte l = length l.rest
