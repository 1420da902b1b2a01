-- The node of a number.
use Rattle.std.specs.Prelude.{ℕ, ◌<◌, ◌≤◌, List, [], length, false, Option, None, Some, Result, Ok, option_map}
use Rattle.std.specs.Prelude.{unwrap_or}
use Rattle.teco_model.specs.Element.{Element}
use Rattle.teco_verifier.specs.declared.refusal.RefusalReason.{RefusalReason}
use Rattle.teco_verifier.specs.expansion.Node.{Node, numbered}
use Rattle.teco_verifier.specs.facts.Facts.{Facts}
use Rattle.teco_verifier.specs.facts.Flows.{Edges}
use Rattle.teco_verifier.specs.facts.Transfer.{Placed, transfer, transfer_return}
use Rattle.teco_verifier.specs.table.Behind.{placed}

-- There is a node of this number.
pub record IsNumberOf (nodes : List Node) (number : ℕ) : Type 0 where
  pub one : 0 < number
  pub last : number ≤ length nodes

-- a node that reads nothing and leads nowhere
abbrev pub no_node : Node
no_node = record {
  stand = record {
    position = record { running = record { text = []; place = 0; starts = [] }; callers = [] };
    iterations = [];
  };
  register = 0;
  element = None;
  ways = [];
  names_macro = false;
}

-- where there is none, it is that
unfoldable pub node_at : List Node → ℕ → Node
node_at nodes number = unwrap_or (numbered nodes number) no_node

-- its element where it stands; none at the end of a text
abbrev pub placed_at : List Node → Node → Option Placed
placed_at nodes node = option_map (placed nodes node) node.element

abbrev pub element_of : Option Placed → Option Element
element_of here = option_map (λ (p : Placed). p.element) here

-- what is known behind an element where it stands
abbrev pub edges_placed : Option Placed → Facts → Result Edges RefusalReason
edges_placed None facts = Ok (transfer_return facts)
edges_placed (Some element) facts = transfer element facts
