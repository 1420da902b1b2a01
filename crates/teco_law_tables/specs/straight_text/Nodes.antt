-- The nodes of a straight text: the call of the entry, the elements one after another, and the return, each with
-- the one way to the next.
use Rattle.std.specs.Prelude.{◌≡◌, ℕ, suc, List, [], ◌∷◌, Bool, true, false, Option, Some, None, Ok}
use Rattle.teco_model.specs.declared.kind.Kind.TheVariants as kind
use Rattle.teco_model.specs.Element.{Element}
use Rattle.teco_verifier.specs.expansion.Expansion.{expansion}
use Rattle.teco_model.specs.Macros.{Library}
use Rattle.teco_verifier.specs.expansion.Node.{Stand, Node, beginning, over}
use Rattle.teco_verifier.specs.expansion.Position.{spot_at}
use Rattle.teco_law_tables.specs.straight_text.Straight.{IsStraight}

-- the call of the entry
abbrev pub call_element : ℕ → Element
call_element entry = record {
  kind = kind.Call (record { register = entry });
  colons = 0;
  at = false;
  text = [];
  second = [];
  place = 0;
  next = 2;
}

-- behind a place in its text, while the call waits
abbrev pub stand_in_text : ℕ → List ℕ → ℕ → Stand
stand_in_text entry text place = record {
  position = record { running = spot_at text place []; callers = (over entry).position.running ∷ [] };
  iterations = [];
}

-- a node of a number goes on to the next, and names no register of the library but in the call
abbrev pub node_going_on : ℕ → ℕ → Stand → Option Element → Bool → Node
node_going_on entry number stand read names =
    record { stand = stand; register = entry; element = read; ways = suc number ∷ []; names_macro = names }

abbrev pub nodes_in_text : ℕ → List ℕ → ℕ → ℕ → List Element → List Node
nodes_in_text entry text number place [] =
    node_going_on entry number (stand_in_text entry text place) None false ∷ []
nodes_in_text entry text number place (e ∷ elements) =
    node_going_on entry number (stand_in_text entry text place) (Some e) false
    ∷ nodes_in_text entry text (suc number) e.next elements

abbrev pub straight_nodes : ℕ → List ℕ → List Element → List Node
straight_nodes entry text elements =
    node_going_on entry 1 (beginning entry) (Some (call_element entry)) true
    ∷ nodes_in_text entry text 2 0 elements

-- That is what a straight text is expanded to.
abbrev pub StraightTextsAreExpanded : Type 0
StraightTextsAreExpanded =
    (library : Library) (entry : ℕ) (text : List ℕ) (elements : List Element)
    → IsStraight library entry text elements → expansion library entry
    ≡ Ok (straight_nodes entry text elements)
