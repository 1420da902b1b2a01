-- The ends of iterations: each that is open at a node ends there or ahead, by one > alone.
use Rattle.std.specs.Prelude.{◌≡◌, ℕ, ◌<◌, ◌≤◌, List, [], ◌∷◌, length, take, drop, true, Some, ⊤}
use Rattle.std.specs.List.{AllByRecursion}
use Rattle.teco_model.specs.declared.kind.Flow.TheVariants as flow
use Rattle.teco_model.specs.declared.kind.Kind.TheVariants as kind
use Rattle.teco_model.specs.Element.{Element}
use Rattle.teco_model.specs.Macros.{Library}
use Rattle.teco_verifier.specs.expansion.Ends.{ends, end_of}
use Rattle.teco_law_runs.specs.Linked.{AreLinked}
use Rattle.teco_verifier.specs.expansion.Node.{Stand, Node, stands, numbered}

-- numbers descend from below a bound
abbrev pub Descend : ℕ → List ℕ → Type 0
Descend bound [] = ⊤
Descend bound (number ∷ numbers) = (number < bound) × Descend number numbers

-- a number is that of a <
pub record IsBegin (nodes : List Node) (number : ℕ) : Type 0 where
  pub node : Node
  pub element : Element
  pub at : numbered nodes number ≡ Some node
  pub reads : node.element ≡ Some element
  pub kind_is : element.kind ≡ kind.Flow flow.Iterate

pub record AreClosed (nodes : List Node) : Type 0 where
  -- inner iterations began later
  pub descend : (k : ℕ) (node : Node) → numbered nodes k ≡ Some node → Descend k node.stand.iterations
  -- an open iteration ends at the node or ahead
  pub ahead :
      (k : ℕ) (node : Node) → numbered nodes k ≡ Some node
      → AllByRecursion (λ begin. k ≤ end_of nodes begin) node.stand.iterations
  -- what ends an iteration is its end
  pub only :
      (k : ℕ) (node : Node) (begin : ℕ) → numbered nodes k ≡ Some node → ends begin node ≡ true
      → end_of nodes begin ≡ k
  -- what ends ahead is an iteration, and ends at a node
  pub begins :
      (number : ℕ) → number < end_of nodes number
      → IsBegin nodes number × (end_of nodes number ≤ length nodes)

abbrev pub IterationsEnd : Type 0
IterationsEnd = (library : Library) (entry : ℕ) (nodes : List Node) → AreLinked library entry nodes
    → AreClosed nodes

-- Where fewer iterations are open at a later number than at a node, those that were left ended before it.
abbrev pub LeftHaveEnded : Type 0
LeftHaveEnded =
    (library : Library) (entry : ℕ) (nodes : List Node) (number target left : ℕ) (node : Node) (stand : Stand)
    → AreLinked library entry nodes → numbered nodes number ≡ Some node
    → numbered (stands nodes entry) target ≡ Some stand → number < target
    → stand.iterations ≡ drop left node.stand.iterations
    → AllByRecursion (λ begin. end_of nodes begin < target) (take left node.stand.iterations)
