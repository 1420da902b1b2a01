-- What is known behind a node, on each of its ways.
use Rattle.std.specs.Prelude.{ℕ, zero, suc, ◌-◌, List, [], ◌∷◌, length, get_or, Bool, true, false, Option, Some, None}
use Rattle.std.specs.Prelude.{Result, Ok}
use Rattle.std.specs.Option.{option_map_or}
use Rattle.teco_model.specs.declared.kind.Kind.{Kind}
use Rattle.teco_model.specs.declared.kind.Kind.TheVariants as kind
use Rattle.teco_model.specs.declared.kind.Flow.{Flow}
use Rattle.teco_model.specs.declared.kind.Flow.TheVariants as flow
use Rattle.teco_model.specs.Element.{Element}
use Rattle.teco_model.specs.Searching.{has_colon}
use Rattle.teco_model.specs.State.{frame_of}
use Rattle.teco_verifier.specs.expansion.Node.{Node, numbered}
use Rattle.teco_verifier.specs.declared.refusal.RefusalReason.{RefusalReason}
use Rattle.teco_verifier.specs.facts.Facts.{Facts}
use Rattle.teco_verifier.specs.facts.Flows.{Edges}
use Rattle.teco_verifier.specs.facts.Transfer.{Placed, transfer, transfer_return}

-- is an iteration of its own text open at a node?
abbrev pub is_inside : List ℕ → Bool
is_inside [] = false
is_inside (start ∷ outer) = true

-- how many iterations are open at a number; behind all nodes there is none
abbrev pub open_of : Node → ℕ
open_of node = length node.stand.iterations

abbrev pub open_at : List Node → ℕ → ℕ
open_at nodes number = option_map_or open_of (numbered nodes number) 0

-- a jump leaves those that are open at its node, and not where it leads
abbrev pub left_by : List Node → Node → ℕ
left_by nodes node = open_of node - open_at nodes (get_or node.ways 0 0)

-- the element of a node where it stands
abbrev pub placed : List Node → Node → Element → Placed
placed nodes node e = record {
  element = e;
  library = node.names_macro;
  inside = is_inside node.stand.position.running.starts;
  colon = has_colon e (frame_of node.stand.position.running.text);
  leaves = left_by nodes node;
}

-- what is known behind it
abbrev pub edges_behind : List Node → Node → Option Element → Facts → Result Edges RefusalReason
edges_behind nodes node None facts = Ok (transfer_return facts)
edges_behind nodes node (Some e) facts = transfer (placed nodes node e) facts

abbrev pub edges_at : List Node → Node → Facts → Result Edges RefusalReason
edges_at nodes node facts = edges_behind nodes node node.element facts

-- On which way: the first goes on and the second away, but > goes away first, and |, O, F>, F' and F| go away alone.
abbrev pub along_flow : Flow → ℕ → Edges → Option Facts
along_flow flow.EndTurn zero edges = edges.away
along_flow flow.EndTurn (suc way) edges = edges.on
along_flow flow.Otherwise way edges = edges.away
along_flow flow.GoTo way edges = edges.away
along_flow (flow.GoAhead g) way edges = edges.away
along_flow f zero edges = edges.on
along_flow f (suc way) edges = edges.away

abbrev pub along_kind : Kind → ℕ → Edges → Option Facts
along_kind (kind.Flow f) way edges = along_flow f way edges
along_kind k zero edges = edges.on
along_kind k (suc way) edges = edges.away

abbrev pub along : Option Element → ℕ → Edges → Option Facts
along None way edges = edges.on
along (Some e) way edges = along_kind e.kind way edges

-- The first way of < and of > begins a turn.
abbrev pub turns_by_flow : Flow → ℕ → Bool
turns_by_flow flow.Iterate zero = true
turns_by_flow flow.EndTurn zero = true
turns_by_flow f way = false

abbrev pub turns_by_kind : Kind → ℕ → Bool
turns_by_kind (kind.Flow f) way = turns_by_flow f way
turns_by_kind k way = false

abbrev pub begins_turn : Option Element → ℕ → Bool
begins_turn None way = false
begins_turn (Some e) way = turns_by_kind e.kind way
