-- A node has the place of its element, and a return that of the end of its text.
use Rattle.std.specs.Prelude.{◌≡◌, ℕ, List, length, Option, Some, None}
use Rattle.teco_model.specs.Element.{Element}
use Rattle.teco_model.specs.Macros.{Library}
use Rattle.teco_law_runs.specs.Linked.{AreLinked}
use Rattle.teco_verifier.specs.expansion.Node.{Node, numbered, place_of}

abbrev pub IsPlaceOf : Option Element → List ℕ → ℕ → Type 0
IsPlaceOf None text place = place ≡ length text
IsPlaceOf (Some e) text place = place ≡ e.place

abbrev pub NodesHavePlaces : Type 0
NodesHavePlaces =
    (library : Library) (entry : ℕ) (nodes : List Node) (number : ℕ) (node : Node)
    → AreLinked library entry nodes → numbered nodes number ≡ Some node
    → IsPlaceOf node.element node.stand.position.running.text (place_of node)
