-- What each change of a list may be like.
use Rattle.teco_change_policies.specs.Laws.{KeepsLineEnds, PutsNothing, PutsOnly, Seeks, SeeksOne, Swaps, TakesNothing}
use Rattle.teco_change_policies.specs.Laws.{TakesOnly}
use Rattle.teco_changes.specs.declared.change.Change.{Change}
use Rattle.teco_change_policies.specs.declared.manner.Manner.{Manner}
use Rattle.teco_change_policies.specs.declared.manner.Manner.TheVariants as manner

-- a change is like that
abbrev pub Is : Manner → Change → Type 0
Is manner.TakesNothing change = TakesNothing change
Is manner.PutsNothing change = PutsNothing change
Is (manner.TakesOnly characters) change = TakesOnly characters.now change
Is (manner.PutsOnly characters) change = PutsOnly characters.now change
Is manner.KeepsLineEnds change = KeepsLineEnds change
Is manner.SwapsWithinLine change = KeepsLineEnds change × Swaps change
Is (manner.SwapsMatches wanted) change = (KeepsLineEnds change × Swaps change) × Seeks wanted.now change
Is (manner.TakesMatches wanted) change = KeepsLineEnds change × SeeksOne wanted.now change
