use Rattle.std.proofs.Common.{◌≡◌, ◌++◌, length}
use Rattle.teco_console.specs.Searches.{filling}
use Rattle.teco_console.proofs.searches.filling.Given as goal

-- what was written, and what is written from here on, are all
abbrev pub invariant-loop-byte : goal.invariant-loop-byte
invariant-loop-byte l =
    l.filled.items ++ filling l.given.register l.given.text l.skipped l.rest
    ≡ filling l.given.register l.given.text 0 l.text

abbrev pub decreases-loop-byte : goal.decreases-loop-byte
decreases-loop-byte l = length l.rest
