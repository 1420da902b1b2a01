-- A table that is a list of nodes.
use Rattle.std.specs.Prelude.{false, Bool, ◌≡◌, ℕ, ◌*◌, ◌==◌, if◌then◌else◌, List, [], ◌∷◌, length, map}
use Rattle.std.specs.Prelude.{slice_index_or, ℤ, Option, None}
use Rattle.std.specs.List.{sum_by}
use Rattle.teco_law_turns.specs.Table.{Table, product_by, commands}

-- a loop round a node, with the fall since its turn began, if that is known
pub record Round : Type 0 where
  pub loop : ℕ
  pub fall : Option ℤ

-- what a table says at a node
pub record Node : Type 0 where
  pub reached : Bool
  pub own : ℕ
  pub rounds : List Round
  pub end : ℕ
  pub turns : ℕ
  pub growth : ℕ
  pub held_most : ℕ
  pub ahead_most : ℕ

abbrev pub no_node : Node
no_node = record {
  reached = false;
  own = 0;
  rounds = [];
  end = 0;
  turns = 0;
  growth = 0;
  held_most = 0;
  ahead_most = 0;
}

-- the fall for a loop
abbrev pub fall_in : List Round → ℕ → Option ℤ
fall_in [] l = None
fall_in (r ∷ rs) l = if r.loop == l then r.fall else fall_in rs l

abbrev pub loops_of : Node → List ℕ
loops_of node = map (λ r. r.loop) node.rounds

abbrev pub node_at : List Node → ℕ → Node
node_at nodes i = slice_index_or nodes i no_node

-- the table of a list of nodes
abbrev pub table_of : List Node → Table
table_of nodes = record {
  size = length nodes;
  reached = λ i. (node_at nodes i).reached;
  own = λ i. (node_at nodes i).own;
  loops = λ i. loops_of (node_at nodes i);
  end = λ i. (node_at nodes i).end;
  turns = λ l. (node_at nodes l).turns;
  growth = λ l. (node_at nodes l).growth;
  held_most = λ i. (node_at nodes i).held_most;
  ahead_most = λ i. (node_at nodes i).ahead_most;
  fall = λ i l. fall_in (node_at nodes i).rounds l;
}

-- what a node counts for: its own steps, once for each turn of each loop round it
abbrev pub node_weight : List Node → Node → ℕ
node_weight nodes node = node.own * product_by (λ l. (node_at nodes l).turns) (loops_of node)

-- what is printed of the list is the sum over its nodes
abbrev pub CommandsAreSum : Type 0
CommandsAreSum = (nodes : List Node) → commands (table_of nodes) ≡ sum_by (node_weight nodes) nodes
