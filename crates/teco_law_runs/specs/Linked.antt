-- What an expansion says of its nodes.
use Rattle.std.specs.Prelude.{◌≡◌, ◌≢◌, ℕ, suc, ◌<◌, ◌≤◌, length, List, [], ◌∷◌, ⊤, Option, Some, None, Ok}
use Rattle.teco_model.specs.declared.pattern.Part.{Part}
use Rattle.teco_model.specs.Element.{Element, element_at}
use Rattle.teco_verifier.specs.expansion.Expansion.{MOST_ELEMENTS, MOST_OPEN, expansion}
use Rattle.teco_model.specs.Macros.{Library, macro, call_of}
use Rattle.teco_verifier.specs.expansion.Names.{names_macro}
use Rattle.teco_verifier.specs.expansion.Node.{Stand, Node, beginning, stands, numbered, stand_at, base_of}
use Rattle.teco_verifier.specs.expansion.Order.{stand_behind}
use Rattle.teco_verifier.specs.expansion.Position.{Spot, Position}
use Rattle.teco_verifier.specs.expansion.Ways.{pattern_parts, read_at, ways_at}

-- A number is the next ahead of a base that stands so.
pub record IsNext (all : List Stand) (base : ℕ) (stand : Stand) (number : ℕ) : Type 0 where
  pub at : numbered all number ≡ Some stand
  pub ahead : base < number
  pub least : (n : ℕ) → base < n → n < number → numbered all n ≢ Some stand

-- Ways lead to the next that stand where the machine will stand, the first of them ahead of a base of its own.
abbrev pub Lead : List Stand → ℕ → ℕ → Stand → List Position → List ℕ → Type 0
Lead all base number from [] [] = ⊤
Lead all base number from (target ∷ targets) (way ∷ ways) =
    IsNext all base (stand_at number from target) way × Lead all number number from targets ways
Lead all base number from targets ways = ⊥

-- A node is linked: it has what is read where it stands, and its ways lead where the ways from there do.
pub record IsLinked (library : Library) (all : List Stand) (number : ℕ) (node : Node) : Type 0 where
  pub targets : List Position
  pub reads : read_at node.stand.position ≡ Ok node.element
  pub goes : ways_at library node.element node.stand.position ≡ Ok targets
  pub leads : Lead all (base_of node.element number node.stand.iterations) number node.stand targets node.ways
  pub names : node.names_macro ≡ names_macro library node.element

-- All nodes are linked, the first stands at the call of the entry, and each is followed by what follows in the texts,
-- the last by the end.
pub record AreLinked (library : Library) (entry : ℕ) (nodes : List Node) : Type 0 where
  pub first : numbered (stands nodes entry) 1 ≡ Some (beginning entry)
  pub each :
      (k : ℕ) (node : Node) → numbered nodes k ≡ Some node → IsLinked library (stands nodes entry) k node
  pub order :
      (k : ℕ) (node : Node) → numbered nodes k ≡ Some node
      → numbered (stands nodes entry) (suc k) ≡ Some (stand_behind library k node.element node.stand)

abbrev pub ExpansionsAreLinked : Type 0
ExpansionsAreLinked =
    (library : Library) (entry : ℕ) (nodes : List Node)
    → expansion library entry ≡ Ok nodes → AreLinked library entry nodes

-- There are no more elements, open calls and open iterations than there may be.
pub record AreFew (nodes : List Node) : Type 0 where
  pub elements : length nodes ≤ MOST_ELEMENTS
  pub calls :
      (k : ℕ) (node : Node) → numbered nodes k ≡ Some node → length node.stand.position.callers ≤ MOST_OPEN
  pub iterations :
      (k : ℕ) (node : Node) → numbered nodes k ≡ Some node → length node.stand.iterations ≤ MOST_OPEN

abbrev pub ExpansionsAreSmall : Type 0
ExpansionsAreSmall =
    (library : Library) (entry : ℕ) (nodes : List Node) → expansion library entry ≡ Ok nodes → AreFew nodes

-- A node has the register of its text: the entry's where that is called, and else that of a macro.
abbrev pub IsTextOf : Library → ℕ → List Spot → ℕ → List ℕ → Type 0
IsTextOf library entry [] register text = (register ≡ entry) × (text ≡ call_of entry)
IsTextOf library entry (caller ∷ callers) register text = macro library register ≡ Some text

abbrev pub NodesHaveTexts : Type 0
NodesHaveTexts =
    (library : Library) (entry : ℕ) (nodes : List Node) (number : ℕ) (node : Node)
    → expansion library entry ≡ Ok nodes → numbered nodes number ≡ Some node
    → IsTextOf library entry node.stand.position.callers node.register node.stand.position.running.text

-- What is read at a node is an element of its text, or its end; and a search text says a pattern.
abbrev pub IsSound : Option Element → Type 0
IsSound None = ⊤
IsSound (Some e) = (read : List Part) × (pattern_parts e.kind e.text ≡ Ok read)

abbrev pub NodesAreSound : Type 0
NodesAreSound =
    (library : Library) (all : List Stand) (number : ℕ) (node : Node) → IsLinked library all number node
    → (element_at node.stand.position.running.text node.stand.position.running.place ≡ Ok node.element)
    × IsSound node.element
