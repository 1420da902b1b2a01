-- A table that is derived in one pass over the nodes, where what is chosen for the iterations is given.
use Rattle.std.specs.Prelude.{ℕ, zero, suc, ◌==◌, List, [], ◌∷◌, ◌++◌, slice_set, if◌then◌else◌, Option, Some}
use Rattle.std.specs.Prelude.{None, option_map, Result, Ok}
use Rattle.std.specs.Option.{option_and_then}
use Rattle.teco_model.specs.declared.kind.Kind.TheVariants as kind
use Rattle.teco_model.specs.declared.kind.Flow.{Flow}
use Rattle.teco_model.specs.declared.kind.Flow.TheVariants as flow
use Rattle.teco_model.specs.Element.{Element}
use Rattle.teco_verifier.specs.expansion.Node.{Node}
use Rattle.teco_poly.specs.Polynomial.{Polynomial}
use Rattle.teco_verifier.specs.declared.refusal.RefusalReason.{RefusalReason}
use Rattle.teco_model.specs.Macros.{ArgumentRange}
use Rattle.teco_verifier.specs.facts.Argument.{facts_given}
use Rattle.teco_verifier.specs.facts.Attempt.{◌>>=◌}
use Rattle.teco_verifier.specs.facts.Bodies.{Choice, Changes, body_start}
use Rattle.teco_verifier.specs.facts.Facts.{Facts}
use Rattle.teco_verifier.specs.facts.Flows.{Edges}
use Rattle.teco_verifier.specs.facts.Joins.{joined}
use Rattle.teco_verifier.specs.table.Behind.{edges_at, along, along_flow}
use Rattle.teco_verifier.specs.table.Choices.{LongerText, Chosen}
use Rattle.teco_verifier.specs.table.Table.{Row, Table}
use Rattle.teco_verifier.specs.table.Written.{changes_in}

abbrev pub with_longer : List LongerText → List Polynomial → List Polynomial
with_longer [] texts = texts
with_longer (change ∷ changes) texts = with_longer changes (slice_set texts change.register change.text)

abbrev pub choice_of : Facts → Chosen → Choice
choice_of facts chosen =
    record { held = chosen.held; kept = chosen.kept; texts = with_longer chosen.longer facts.texts }

abbrev pub chosen_for : ℕ → List Chosen → Option Chosen
chosen_for number [] = None
chosen_for number (chosen ∷ others) = if chosen.begin == number then Some chosen else chosen_for number others

-- an edge that arrives at a number
pub record Arrival : Type 0 where
  pub target : ℕ
  pub facts : Facts

-- what is known where edges arrive; where none does the node is not reached
abbrev pub met_with : Option Facts → Facts → Result (Option Facts) RefusalReason
met_with None facts = Ok (Some facts)
met_with (Some others) facts = do
  join ← joined others facts
  Ok (Some join)

abbrev pub met : ℕ → List Arrival → Option Facts → Result (Option Facts) RefusalReason
met number [] known = Ok known
met number (arrival ∷ arrivals) known =
    if arrival.target == number then (do
      more ← met_with known arrival.facts
      met number arrivals more)
    else met number arrivals known

-- The way into a body leads to its start, and the way back to what was derived already.
abbrev pub start_of_body : Changes → Option Choice → Option Facts → Option Facts
start_of_body changes choice entering =
    option_and_then (λ (c : Choice). option_map (body_start c changes) entering) choice

abbrev pub arriving_by_flow : Changes → Option Choice → Flow → ℕ → Edges → Option Facts
arriving_by_flow changes choice flow.Iterate zero edges = start_of_body changes choice edges.on
arriving_by_flow changes choice flow.EndTurn zero edges = None
arriving_by_flow changes choice f way edges = along_flow f way edges

abbrev pub arriving : Changes → Option Choice → Option Element → ℕ → Edges → Option Facts
arriving changes choice None way edges = along None way edges
arriving changes choice (Some e) way edges = elim e.kind [
  | kind.Flow f ↦ arriving_by_flow changes choice f way edges
  | k ↦ along (Some e) way edges
]

abbrev pub arrivals_at : ℕ → Option Facts → List Arrival
arrivals_at target None = []
arrivals_at target (Some facts) = record { target = target; facts = facts } ∷ []

abbrev pub arrivals_behind : Changes → Option Choice → Option Element → ℕ → List ℕ → Edges → List Arrival
arrivals_behind changes choice read way [] edges = []
arrivals_behind changes choice read way (target ∷ targets) edges =
    arrivals_at target (arriving changes choice read way edges)
    ++ arrivals_behind changes choice read (suc way) targets edges

-- what a node's row says, and the edges behind it
pub record Derived : Type 0 where
  pub row : Row
  pub arrivals : List Arrival

abbrev pub derived_at : List Node → List Chosen → ℕ → Node → Option Facts → Result Derived RefusalReason
derived_at nodes chosen number node None =
    Ok (record { row = record { facts = None; choice = None }; arrivals = [] })
derived_at nodes chosen number node (Some facts) = do
  edges ← edges_at nodes node facts
  Ok (
      let choice = option_map (choice_of facts) (chosen_for number chosen) in record {
        row = record { facts = Some facts; choice = choice };
        arrivals = arrivals_behind (changes_in nodes number) choice node.element 0 node.ways edges;
      })

abbrev pub derive_from : List Node → List Chosen → ℕ → List Node → List Arrival → Result Table RefusalReason
derive_from nodes chosen number [] arrivals = Ok []
derive_from nodes chosen number (node ∷ rest) arrivals = do
  known ← met number arrivals None
  here ← derived_at nodes chosen number node known
  rows ← derive_from nodes chosen (suc number) rest (arrivals ++ here.arrivals)
  Ok (here.row ∷ rows)

unfoldable pub derive : Option ArgumentRange → List Node → List Chosen → Result Table RefusalReason
derive argument nodes chosen =
    derive_from nodes chosen 1 nodes (record { target = 1; facts = facts_given argument } ∷ [])
