use Rattle.std.proofs.Common.{◌≡◌, drop}
use Rattle.teco_console.specs.Searches.{filled}
use Rattle.teco_console.proofs.searches.filled.Given as goal

-- the search texts that are still to come make the text of all
abbrev pub invariant-loop-given : goal.invariant-loop-given
invariant-loop-given l = filled (drop l.given-index l.searches) l.filled.items ≡ filled l.searches l.text
