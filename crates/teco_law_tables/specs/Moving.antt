-- A step from where a run is described is a move of the table of numbers, to where it is described again.
use Rattle.std.specs.Prelude.{◌≡◌, ℕ, zero, suc, ◌+◌, ◌≤◌, List, true, Option, Some, None, Ok}
use Rattle.teco_law_turns.specs.Moves.{Move}
use Rattle.teco_model.specs.declared.kind.Kind.{Kind}
use Rattle.teco_model.specs.declared.kind.Kind.TheVariants as kind
use Rattle.teco_model.specs.declared.kind.Flow.{Flow}
use Rattle.teco_model.specs.declared.kind.Flow.TheVariants as flow
use Rattle.teco_model.specs.Element.{Element}
use Rattle.teco_model.specs.Registers.{Pair}
use Rattle.teco_model.specs.State.{World, State}
use Rattle.teco_model.specs.Macros.{Library, IsLoaded}
use Rattle.teco_law_runs.specs.Linked.{AreLinked}
use Rattle.teco_verifier.specs.expansion.Node.{Node, over, stands, numbered}
use Rattle.teco_verifier.specs.expansion.Position.{position_of}
use Rattle.teco_law_runs.specs.Run.{GoesTo}
use Rattle.teco_law_runs.specs.Steps.{is_long}
use Rattle.teco_poly.specs.Polynomial.{value}
use Rattle.teco_law_facts.specs.Describes.{Run, run_behind, run_in_turn, IsWhole, Describes}
use Rattle.teco_verifier.specs.facts.Facts.{Facts}
use Rattle.teco_verifier.specs.facts.Flows.{Edges}
use Rattle.teco_model.specs.Paging.{unread_of}
use Rattle.teco_verifier.specs.table.Behind.{left_by, edges_at, along}
use Rattle.teco_verifier.specs.table.Closed.{check_nodes}
use Rattle.teco_law_tables.specs.Following.{OpenTurn, run_at, IsDescribed, held_of, shown}
use Rattle.teco_verifier.specs.table.Table.{Table}
use Rattle.teco_law_tables.specs.Turning.{held_at, turning}

-- how many iterations are left on a way: > and a miss leave one, as ; does, and O as many as lie between
abbrev pub left_by_flow : Flow → ℕ → ℕ → ℕ
left_by_flow flow.EndTurn (suc way) between = 1
left_by_flow flow.Leave (suc way) between = 1
left_by_flow flow.GoTo way between = between
left_by_flow f way between = 0

abbrev pub left_by_kind : Kind → ℕ → ℕ → ℕ
left_by_kind (kind.Flow f) way between = left_by_flow f way between
left_by_kind (kind.Search s) (suc way) between = 1
left_by_kind k way between = 0

abbrev pub left_along : Option Element → ℕ → ℕ → ℕ
left_along None way between = 0
left_along (Some e) way between = left_by_kind e.kind way between

-- what the facts on a way speak of: a turn begins, another turn, or iterations are left
abbrev pub run_by_flow : Flow → ℕ → ℕ → World → Run → Run
run_by_flow flow.Iterate zero between world run = run_in_turn (unread_of world) world.kept run
run_by_flow flow.EndTurn zero between world run = run_in_turn (unread_of world) world.kept (run_behind 1 run)
run_by_flow f way between world run = run_behind (left_by_flow f way between) run

abbrev pub run_by_kind : Kind → ℕ → ℕ → World → Run → Run
run_by_kind (kind.Flow f) way between world run = run_by_flow f way between world run
run_by_kind k way between world run = run_behind (left_by_kind k way between) run

abbrev pub run_along : Option Element → ℕ → ℕ → World → Run → Run
run_along None way between world run = run
run_along (Some e) way between world run = run_by_kind e.kind way between world run

-- What the laws of facts say of an element whose last step goes along a way: the way is reached, what is known on it
-- describes what the element comes to, and what is held grew by no more than that says.
pub record Comes
    (nodes : List Node) (node : Node) (facts : Facts) (way : ℕ) (run : Run) (s t : State) : Type 0 where
  pub edges : Edges
  pub next : Facts
  pub leads : edges_at nodes node facts ≡ Ok edges
  pub on_way : along node.element way edges ≡ Some next
  pub described :
      Describes (run_along node.element way (left_by nodes node) s.world run) next
      (unread_of t.world) t.world.kept
      t.arguments
  pub grown : held_of t.world + value facts.held run.n ≤ held_of s.world + value next.held run.n

-- The last step of an element goes along a way. P, PW, N and FN may have taken others before, and stood where they
-- began.
abbrev pub IsLong : Option Element → Type 0
IsLong None = ⊥
IsLong (Some e) = is_long e.kind ≡ true

pub data IsLast (read : Option Element) (s last : State) : Type 0 where
  Alone : last ≡ s → IsLast read s last
  Again : last.frames ≡ s.frames → IsLong read → IsLast read s last

-- A run came to a node by a move, and is described there if no more is held than the table has there.
pub record MovesOn
    (library : Library) (nodes : List Node) (table : Table) (n : ℕ) (below : List Pair) (number : ℕ)
    (node : Node)
    (turns : List OpenTurn) (s : State) (target : ℕ) (t : State) : Type 0 where
  pub there : Node
  pub at : numbered nodes target ≡ Some there
  pub later : List OpenTurn
  pub move :
      Move (turning nodes table n) (shown number node.stand.iterations turns s.world)
      (shown target there.stand.iterations later t.world)
  pub held : held_of t.world ≤ held_at nodes table n target → IsDescribed library nodes table n below target later t

-- A run may have come to the end instead.
pub data ComesOn
    (library : Library) (entry : ℕ) (nodes : List Node) (table : Table) (n : ℕ) (below : List Pair)
    (number : ℕ)
    (node : Node) (turns : List OpenTurn) (s : State) (target : ℕ) (t : State) : Type 0 where
  Over :
      (over entry).position ≡ position_of t
      → ComesOn library entry nodes table n below number node turns s target t
  On :
      MovesOn library nodes table n below number node turns s target t
      → ComesOn library entry nodes table n below number node turns s target t

abbrev pub StepsMove : Type 0
StepsMove =
    (library : Library) (entry : ℕ) (nodes : List Node) (table : Table) (n : ℕ) (below : List Pair)
    (number : ℕ)
    (turns : List OpenTurn) (s last t : State)
    → AreLinked library entry nodes → check_nodes nodes table ≡ Ok tt
    → (here : IsDescribed library nodes table n below number turns s)
    → IsLast here.node.element s last → (goes : GoesTo (stands nodes entry) number here.node last t)
    → Comes nodes here.node here.facts goes.way (run_at n below turns) s t
    → IsLoaded library t.world.kept → IsWhole t.world.kept
    → ComesOn library entry nodes table n below number here.node turns s goes.target t
