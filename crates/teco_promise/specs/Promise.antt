-- What is promised of a macro, however it was found: each run of it ends in time, and without a code.
use Rattle.std.specs.Prelude.{◌≡◌, ℕ, ◌+◌, ◌≤◌, ⊤, List, length, Option, Some, None, option_map, Ok}
use Rattle.teco_law_changes.specs.Runs.{ChangesAsTold}
use Rattle.teco_law_runs.specs.Framing.{LeavesFramed}
use Rattle.teco_law_runs.specs.Given.{call_given}
use Rattle.teco_law_runs.specs.Ready.{AreOpen, IsReady, n_of}
use Rattle.teco_law_runs.specs.Ending.{EndsWithin}
use Rattle.teco_model.specs.Macros.{Library, ArgumentRange, IsAsked, Needs}
use Rattle.teco_model.specs.Paging.{unread_of}
use Rattle.teco_model.specs.Run.{Reaches}
use Rattle.teco_model.specs.State.{Kept, World, State, start}
use Rattle.teco_poly.specs.Polynomial.{Polynomial, value}
use Rattle.teco_verifier.specs.expansion.Expansion.{expansion}
use Rattle.teco_verifier.specs.expansion.Node.{Node}

-- The texts of a library, the register that is called, the argument that it takes, if any, the files that must be
-- open, the most commands, the most that must fit, and, if bounds on them are known, how much longer the text gets and
-- the most bytes that are typed.
pub record Promise : Type 0 where
  pub library : Library
  pub entry : ℕ
  pub argument : Option ArgumentRange
  pub needs : Needs
  pub commands : Polynomial
  pub size : Polynomial
  pub grows : Option Polynomial
  pub types : Option Polynomial

-- how much is in the buffer and unread
abbrev pub held_of : World → ℕ
held_of world = length world.kept.text + unread_of world

-- how much there may be at N of what was so much before, if what is added is bounded
abbrev pub most_with : Option Polynomial → ℕ → ℕ → Option ℕ
most_with added n before = option_map (λ most. before + value most n) added

-- no more than that
abbrev pub IsWithin : Option ℕ → ℕ → Type 0
IsWithin None number = ⊤
IsWithin (Some most) number = number ≤ most

-- A run comes to its end within so many steps; on its way and at its end no more is in the buffer and unread, and at
-- its end no more bytes were typed, what no node names is as it was, and the text is changed by what is told of the
-- nodes.
pub record EndsInBounds (nodes : List Node) (s : State) (most : ℕ) (held typed : Option ℕ) : Type 0 where
  pub ends : EndsWithin s most
  pub on_the_way : (k : ℕ) (t : State) → k ≤ ends.steps → Reaches k s t → IsWithin held (held_of t.world)
  pub at_the_end : IsWithin held (held_of ends.new)
  pub types : IsWithin typed (length ends.new.kept.typed)
  pub framed : LeavesFramed nodes s.world.kept ends.new.kept
  pub changed : ChangesAsTold nodes s.world ends.new

-- Each call with an argument that is asked for, where the library is loaded, the size may be held and the files that it
-- needs are open, comes to its end within the commands, without a code, by no command of files; its text gets no longer
-- on the way, and it types no more bytes, than is told; it leaves what no element of the macro names, and changes the
-- text by no more than its elements can do.
pub record EachRunEnds (promise : Promise) : Type 0 where
  pub nodes : List Node
  pub expanded : expansion promise.library promise.entry ≡ Ok nodes
  pub runs :
      (given : Option ℕ) (world : World)
      → IsAsked promise.argument given → IsReady promise.library promise.entry promise.size (n_of world) world
      → AreOpen promise.needs world.files
      → EndsInBounds nodes (start (call_given promise.entry given) world) (value promise.commands (n_of world))
      (most_with promise.grows (n_of world) (held_of world))
      (most_with promise.types (n_of world) (length world.kept.typed))
