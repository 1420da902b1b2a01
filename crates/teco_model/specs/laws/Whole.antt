-- What always holds of a state of the machine, and of what stays between two runs.
use Rattle.std.specs.Prelude.{◌≡◌, ℕ, ◌<◌, ◌≤◌, List, length, FitsSigned, IfSome}
use Rattle.std.specs.Int.{w32}
use Rattle.std.specs.List.{AllByRecursion}
use Rattle.teco_base.specs.declared.TheConstants.{LIMIT, REGISTERS}
use Rattle.teco_model.specs.Arguments.{Arguments}
use Rattle.teco_model.specs.Element.{Element}
use Rattle.teco_model.specs.Files.{File, Input, Output, Files}
use Rattle.teco_model.specs.Registers.{Pair, Registers}
use Rattle.teco_model.specs.State.{Kept, World, Frame, Frames, State, Outcome, Next, End, Exit, Fail, Absent}
use Rattle.teco_model.specs.declared.arguments.Level.{Level}

-- characters are bytes
abbrev pub AreBytes : List ℕ → Type 0
AreBytes text = AllByRecursion (λ c. c < 256) text

-- The number of a register fits 32 bits, and its text is of bytes and not longer than LIMIT.
pub record IsWholePair (pair : Pair) : Type 0 where
  pub number : FitsSigned w32 pair.number
  pub within : length pair.text ≤ LIMIT
  pub bytes : AreBytes pair.text

-- There are 36 such pairs, and those of the push-down list.
pub record AreWholePairs (registers : Registers) : Type 0 where
  pub count : length registers.pairs ≡ REGISTERS
  pub pairs : AllByRecursion IsWholePair registers.pairs
  pub stack : AllByRecursion IsWholePair registers.stack

-- What an editor keeps: the pointer is in the text, numbers fit 32 bits, characters are bytes, and no text is
-- longer than LIMIT.
pub record IsWhole (kept : Kept) : Type 0 where
  pub inside : kept.pointer ≤ length kept.text
  pub within : length kept.text ≤ LIMIT
  pub bytes : AreBytes kept.text
  pub count : length kept.registers.pairs ≡ REGISTERS
  pub pairs : AllByRecursion IsWholePair kept.registers.pairs
  pub stack : AllByRecursion IsWholePair kept.registers.stack
  pub last : kept.last_length ≤ LIMIT
  pub mode : FitsSigned w32 kept.mode

-- what is read and written, and what has a name, is of bytes
pub record AreWholeFiles (files : Files) : Type 0 where
  pub named : AllByRecursion (λ (file : File). AreBytes file.bytes) files.named
  pub input : IfSome files.input (λ (input : Input). AreBytes input.unread)
  pub output : IfSome files.output (λ (output : Output). AreBytes output.written)

pub record IsWholeWorld (world : World) : Type 0 where
  pub kept : IsWhole world.kept
  pub files : AreWholeFiles world.files

-- pending numbers fit 32 bits
pub record IsWholeLevel (level : Level) : Type 0 where
  pub first : IfSome level.first (FitsSigned w32)
  pub value : IfSome level.value (FitsSigned w32)

pub record AreWholeArguments (arguments : Arguments) : Type 0 where
  pub level : IsWholeLevel arguments.level
  pub outer : AllByRecursion IsWholeLevel arguments.outer

-- the texts that are executed are of bytes
pub record AreWholeFrames (frames : Frames) : Type 0 where
  pub running : AreBytes frames.running.text
  pub callers : AllByRecursion (λ (frame : Frame). AreBytes frame.text) frames.callers

pub record IsWholeState (s : State) : Type 0 where
  pub world : IsWholeWorld s.world
  pub arguments : AreWholeArguments s.arguments
  pub frames : AreWholeFrames s.frames

-- whatever a step comes to
abbrev pub IsWholeOutcome : Outcome → Type 0
IsWholeOutcome (Next s) = IsWholeState s
IsWholeOutcome (End world) = IsWholeWorld world
IsWholeOutcome (Exit world) = IsWholeWorld world
IsWholeOutcome (Fail c world) = IsWholeWorld world
IsWholeOutcome (Absent world) = IsWholeWorld world

-- the texts of an element are of bytes, as the text that it stands in
pub record IsOfBytes (e : Element) : Type 0 where
  pub text : AreBytes e.text
  pub second : AreBytes e.second
