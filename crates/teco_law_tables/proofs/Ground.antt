-- What the proofs about a closed table stand on, and an element that goes along a way.
use Rattle.teco_law_tables.proofs.Prelude.{◌≡◌, ℕ, List, Ok, Library, IsLoaded, Pair, State, Node, stands, check_nodes}
use Rattle.teco_law_tables.proofs.Prelude.{Table, AreLinked, GoesTo, IsWhole, OpenTurn, run_at, IsDescribed, IsLast}
use Rattle.teco_law_tables.proofs.Prelude.{Comes}

-- a closed table over the nodes of a macro, a size of N, and the push-down list of the entry
pub record Ground : Type 0 where
  pub library : Library
  pub entry : ℕ
  pub nodes : List Node
  pub table : Table
  pub n : ℕ
  pub below : List Pair
  pub are : AreLinked library entry nodes
  pub passes : check_nodes nodes table ≡ Ok tt

-- where a run is described
pub record Arrival (ground : Ground) : Type 0 where
  pub number : ℕ
  pub turns : List OpenTurn
  pub s : State
  pub here : IsDescribed ground.library ground.nodes ground.table ground.n ground.below number turns s

-- an element that begins there, and goes along a way with its last step
pub record Passage (ground : Ground) : Type 0 where
  pub arrival : Arrival ground
  pub open arrival use *
  pub last : State
  pub t : State
  pub again : IsLast here.node.element s last
  pub goes : GoesTo (stands ground.nodes ground.entry) number here.node last t
  pub comes : Comes ground.nodes here.node here.facts goes.way (run_at ground.n ground.below turns) s t
  pub loaded : IsLoaded ground.library t.world.kept
  pub whole : IsWhole t.world.kept
