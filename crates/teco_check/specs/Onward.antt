-- What is known on a way that begins no turn.
use Rattle.std.specs.Prelude.{ℕ, Option, None, if◌then◌else◌}
use Rattle.teco_model.specs.Element.{Element}
use Rattle.teco_verifier.specs.facts.Facts.{Facts}
use Rattle.teco_verifier.specs.facts.Flows.{Edges}
use Rattle.teco_verifier.specs.table.Behind.{along, begins_turn}

-- the edge of a way, unless the way begins a turn
abbrev pub onward : Option Element → ℕ → Edges → Option Facts
onward read way edges = if begins_turn read way then None else along read way edges
