-- Nodes: what a run of a macro comes to, numbered from 1 in the order of the texts, and the ways between them.
use Rattle.std.specs.Prelude.{ℕ, zero, suc, ◌-◌, List, [], ◌∷◌, ◌++◌, map, drop, get_or, nat_lt, if◌then◌else◌, Bool}
use Rattle.std.specs.Prelude.{Option, Some, None, slice_get}
use Rattle.teco_model.specs.declared.kind.Kind.{Kind}
use Rattle.teco_model.specs.declared.kind.Kind.TheVariants as kind
use Rattle.teco_model.specs.declared.kind.Flow.TheVariants as flow
use Rattle.teco_model.specs.Element.{Element}
use Rattle.teco_model.specs.Macros.{call_of}
use Rattle.teco_verifier.specs.expansion.Position.{Position, spot_at, spot_in, depth, place_at}

-- where a run stands among nodes: its position, and the numbers of the < whose iterations are open, the innermost first
pub record Stand : Type 0 where
  pub position : Position
  pub iterations : List ℕ

-- A node: where it stands, the register whose text that is, the element that is read there or none at the end of the
-- text, the numbers that its ways lead to, and whether the register that the element names is one of the library.
pub record Node : Type 0 where
  pub stand : Stand
  pub register : ℕ
  pub element : Option Element
  pub ways : List ℕ
  pub names_macro : Bool

-- the place of its element
abbrev pub place_of : Node → ℕ
place_of node = place_at node.stand.position

abbrev pub beginning : ℕ → Stand
beginning entry = record {
  position = record { running = spot_in (call_of entry); callers = [] };
  iterations = [];
}

-- behind that call the run is over
abbrev pub over : ℕ → Stand
over entry = record {
  position = record { running = spot_at (call_of entry) 2 []; callers = [] };
  iterations = [];
}

abbrev pub stand_of_node : Node → Stand
stand_of_node node = node.stand

-- where the nodes stand, in the order of their numbers, and behind them the end
abbrev pub stands : List Node → ℕ → List Stand
stands nodes entry = map stand_of_node nodes ++ over entry ∷ []

abbrev pub numbered : {X : Type 0} → List X → ℕ → Option X
numbered xs zero = None
numbered xs (suc k) = slice_get xs k

-- Where a way leads from the node of a number: one open iteration more is the node's own, and where there are fewer the
-- innermost are left.
abbrev pub iterations_at : ℕ → List ℕ → ℕ → ℕ → List ℕ
iterations_at number iterations before after =
    if nat_lt before after then number ∷ iterations else drop (before - after) iterations

abbrev pub stand_at : ℕ → Stand → Position → Stand
stand_at number from p = record {
  position = p;
  iterations = iterations_at number from.iterations (depth from.position) (depth p);
}

-- Ways lead ahead of their node, but for the first of >, which leads back, ahead of its <.
abbrev pub base_of_kind : Kind → ℕ → List ℕ → ℕ
base_of_kind (kind.Flow flow.EndTurn) number iterations = get_or iterations 0 0
base_of_kind k number iterations = number

abbrev pub base_of : Option Element → ℕ → List ℕ → ℕ
base_of None number iterations = number
base_of (Some e) number iterations = base_of_kind e.kind number iterations

abbrev pub base_of_way : ℕ → ℕ → ℕ → ℕ
base_of_way zero base number = base
base_of_way (suc way) base number = number
