-- Each step keeps what always holds of a state of the machine.
use Rattle.std.specs.Prelude.{ℕ, List}
use Rattle.teco_model.specs.Run.{Reaches}
use Rattle.teco_model.specs.State.{World, State, start}
use Rattle.teco_model.specs.Step.{step}
pub use Rattle.teco_model.specs.laws.Whole.{AreBytes, IsWhole, AreWholeFiles, IsWholeWorld, IsWholeLevel}
pub use Rattle.teco_model.specs.laws.Whole.{AreWholeArguments, AreWholeFrames, IsWholeState, IsWholeOutcome}

-- A run begins whole where its command string is of bytes; each step keeps what is whole, and so does a run.
pub record WholeIsKept : Type 0 where
  pub starts :
      (command : List ℕ) (world : World) → AreBytes command → IsWholeWorld world
      → IsWholeState (start command world)
  pub steps : (s : State) → IsWholeState s → IsWholeOutcome (step s)
  pub runs : (n : ℕ) (s t : State) → IsWholeState s → Reaches n s t → IsWholeState t
