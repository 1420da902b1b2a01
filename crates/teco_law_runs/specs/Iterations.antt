-- The numbers that a node has of its open iterations are those of the < that began them.
use Rattle.std.specs.Prelude.{◌≡◌, ℕ, suc, ◌<◌, List, [], ◌∷◌, Some}
use Rattle.teco_model.specs.declared.kind.Flow.TheVariants as flow
use Rattle.teco_model.specs.declared.kind.Kind.TheVariants as kind
use Rattle.teco_model.specs.Element.{Element}
use Rattle.teco_model.specs.Macros.{Library}
use Rattle.teco_law_runs.specs.Linked.{AreLinked}
use Rattle.teco_verifier.specs.expansion.Node.{Stand, Node, stands, numbered}
use Rattle.teco_verifier.specs.expansion.Position.{Spot, spot_at}

-- A number below another is that of a <, and behind it the body stands.
pub record Begins (nodes : List Node) (entry below number : ℕ) (body : Stand) : Type 0 where
  pub node : Node
  pub element : Element
  pub at : numbered nodes number ≡ Some node
  pub before : number < below
  pub reads : node.element ≡ Some element
  pub is_begin : element.kind ≡ kind.Flow flow.Iterate
  pub behind : numbered (stands nodes entry) (suc number) ≡ Some body

-- the start of the innermost body in a text that others wait for
abbrev pub body_at : List ℕ → List Spot → ℕ → List ℕ → List ℕ → Stand
body_at text callers start outer numbers = record {
  position = record {
    running = spot_at text start (start ∷ outer);
    callers = callers;
  };
  iterations = numbers;
}

-- Of the iterations that are open in a text each has its number; the numbers behind these are for those of the callers.
abbrev pub AreOpenIn :
    List Node → ℕ → ℕ → List ℕ → List Spot → (List ℕ → Type 0) → List ℕ → List ℕ → Type 0
AreOpenIn nodes entry below text callers Rest [] numbers = Rest numbers
AreOpenIn nodes entry below text callers Rest (start ∷ outer) [] = ⊥
AreOpenIn nodes entry below text callers Rest (start ∷ outer) (number ∷ numbers) =
    Begins nodes entry below number (body_at text callers start outer (number ∷ numbers))
    × AreOpenIn nodes entry below text callers Rest outer numbers

abbrev pub AreOpen : List Node → ℕ → ℕ → List Spot → List ℕ → Type 0
AreOpen nodes entry below [] numbers = numbers ≡ []
AreOpen nodes entry below (spot ∷ callers) numbers =
    AreOpenIn nodes entry below spot.text callers (AreOpen nodes entry below callers) spot.starts numbers

-- a node's iterations are those that are open where it stands
abbrev pub IsOpen : List Node → ℕ → ℕ → Stand → Type 0
IsOpen nodes entry below stand =
    AreOpen nodes entry below (stand.position.running ∷ stand.position.callers) stand.iterations

abbrev pub IterationsAreOpen : Type 0
IterationsAreOpen =
    (library : Library) (entry : ℕ) (nodes : List Node) (number : ℕ) (node : Node)
    → AreLinked library entry nodes → numbered nodes number ≡ Some node → IsOpen nodes entry number node.stand
