-- The order of the texts: a call is followed by the elements of its text and by its return.
use Rattle.std.specs.Prelude.{ℕ, List, [], ◌∷◌, drop, Option, Some, None}
use Rattle.teco_model.specs.declared.kind.Kind.{Kind}
use Rattle.teco_model.specs.declared.kind.Kind.TheVariants as kind
use Rattle.teco_model.specs.declared.kind.Flow.TheVariants as flow
use Rattle.teco_model.specs.Element.{Element}
use Rattle.teco_model.specs.Macros.{Library, macro}
use Rattle.teco_verifier.specs.expansion.Node.{Stand}
use Rattle.teco_verifier.specs.expansion.Position.{Spot, Position, moved_to}
use Rattle.teco_verifier.specs.expansion.Ways.{past, called}

-- < is followed by its body, and > by what is outside of it.
abbrev pub stand_inside : ℕ → Element → Stand → Stand
stand_inside number e from = record {
  position = moved_to e.next (e.next ∷ from.position.running.starts) from.position;
  iterations = number ∷ from.iterations;
}

abbrev pub stand_outside : Element → Stand → Stand
stand_outside e from = record {
  position = moved_to e.next (drop 1 from.position.running.starts) from.position;
  iterations = drop 1 from.iterations;
}

-- A call is followed by its text, if there is one, and a return by what stands behind the call.
abbrev pub position_in_text : Option (List ℕ) → Element → Position → Position
position_in_text None e p = past e p
position_in_text (Some text) e p = called text e p

abbrev pub position_behind_call : List Spot → Position → Position
position_behind_call [] p = p
position_behind_call (caller ∷ callers) p = record { running = caller; callers = callers }

-- Any other element is followed by what stands behind it.
abbrev pub stand_behind_kind : Library → ℕ → Kind → Element → Stand → Stand
stand_behind_kind library number (kind.Call c) e from =
    record from { position = position_in_text (macro library c.register) e from.position }
stand_behind_kind library number (kind.Flow flow.Iterate) e from = stand_inside number e from
stand_behind_kind library number (kind.Flow flow.EndTurn) e from = stand_outside e from
stand_behind_kind library number k e from = record from { position = past e from.position }

-- the stand that follows that of a number
abbrev pub stand_behind : Library → ℕ → Option Element → Stand → Stand
stand_behind library number None from =
    record from { position = position_behind_call from.position.callers from.position }
stand_behind library number (Some e) from = stand_behind_kind library number e.kind e from
