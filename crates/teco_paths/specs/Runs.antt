-- Runs of a macro among the nodes of its expansion.
use Rattle.std.specs.Prelude.{◌≡◌, ℕ, ◌+◌, ◌≤◌, List, length, Option, Some, None}
use Rattle.teco_law_runs.specs.Framing.{ReadsIn}
use Rattle.teco_law_runs.specs.Ready.{AreOpen}
use Rattle.teco_law_runs.specs.Wholeness.{IsWholeState}
use Rattle.teco_law_runs.specs.Staying.{NoFileCommands}
use Rattle.teco_model.specs.Macros.{Library, IsLoaded, Needs}
use Rattle.teco_model.specs.Run.{Reaches}
use Rattle.teco_model.specs.State.{State, End}
use Rattle.teco_model.specs.Step.{step}
use Rattle.teco_flow_outcomes.specs.Law.{point_of, unread_in}
use Rattle.teco_promise.specs.Promise.{IsWithin}
use Rattle.teco_rows.specs.States.{Origin, Point}
use Rattle.teco_verifier.specs.expansion.Node.{Node, Stand, stands, numbered}
use Rattle.teco_verifier.specs.expansion.Position.{position_of}

-- What a run is of: the library and the entry, N, what there was at the entry, and which files are open.
pub record Ground : Type 0 where
  pub library : Library
  pub entry : ℕ
  pub n : ℕ
  pub origin : Origin
  pub needs : Needs

-- a state stands where a number does
pub record StandsBy (nodes : List Node) (ground : Ground) (number : ℕ) (s : State) : Type 0 where
  pub stand : Stand
  pub at : numbered (stands nodes ground.entry) number ≡ Some stand
  pub position : stand.position ≡ position_of s

-- A state of a run stands where a number does, and begins there; the library is loaded, and the files are open.
pub record IsAt (nodes : List Node) (ground : Ground) (number : ℕ) (s : State) : Type 0 where
  pub stands : StandsBy nodes ground number s
  pub begins : s.left ≡ None
  pub loaded : IsLoaded ground.library s.world.kept
  pub whole : IsWholeState s
  pub files : AreOpen ground.needs s.world.files

-- how much is in the buffer and unread
abbrev pub held_in : State → ℕ
held_in s = length s.world.kept.text + unread_in s.world.files.input

-- No more is held than the size, nor than it may have grown to.
pub record IsHeldWithin (size : ℕ) (grown : Option ℕ) (held : ℕ) : Type 0 where
  pub fits : held ≤ size
  pub grows : IsWithin grown held

-- What a run keeps within: how many steps it takes, how much it holds, and, where bounds on these are known, to how
-- much it grows and how many bytes it has typed.
pub record Limits : Type 0 where
  pub most : ℕ
  pub size : ℕ
  pub grown : Option ℕ
  pub typed : Option ℕ

-- A state stands at a node, and is as is said of states there.
pub record IsAsSaid (nodes : List Node) (ground : Ground) (Says : ℕ → Point → Type 0) (steps : ℕ) (s : State) :
    Type 0 where
  pub number : ℕ
  pub stands : StandsBy nodes ground number s
  pub said : Says number (point_of steps ground.origin s)

-- A state on the way of a run, so many steps after its entry: it holds no more than it may, what is read there is of a
-- node, the library is loaded, and the push-down list has no fewer pairs than at the entry; where an element begins,
-- all is as is said.
pub record IsUnderway (nodes : List Node) (ground : Ground) (limits : Limits) (Says : ℕ → Point → Type 0) (steps : ℕ)
    (s : State) : Type 0 where
  pub held : IsHeldWithin limits.size limits.grown (held_in s)
  pub reads : ReadsIn nodes s
  pub loaded : IsLoaded ground.library s.world.kept
  pub above : ground.origin.pushes ≤ length s.world.kept.registers.stack
  pub said : s.left ≡ None → IsAsSaid nodes ground Says steps s

-- A run, so many steps after its entry, comes to its end in time, without a code and by no command of files; each state
-- on the way is as it may be, and at the end no more bytes are typed than may be.
pub record EndsBy (nodes : List Node) (ground : Ground) (limits : Limits) (Says : ℕ → Point → Type 0) (steps : ℕ)
    (s : State) : Type 0 where
  pub more : ℕ
  pub last : State
  pub within : steps + more ≤ limits.most
  pub none : NoFileCommands s more
  pub underway :
      (k : ℕ) (t : State) → k ≤ more → Reaches k s t → IsUnderway nodes ground limits Says (steps + k) t
  pub types : IsWithin limits.typed (length last.world.kept.typed)
  pub comes : Reaches more s last
  pub ends : step last ≡ End last.world
