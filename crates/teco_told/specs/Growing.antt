-- A list that grows.
use Rattle.std.specs.Prelude.{List, All, Contains}
use Rattle.teco_changes.specs.declared.change.Change.{Change}

-- it has all that it had
abbrev pub Grows : List Change → List Change → Type 0
Grows old new = All (Contains new) old
