-- What editing a file by a verified macro does.
use Rattle.std.specs.Prelude.{⊤, ◌≡◌, ◌≢◌, ◌≤◌, ◌⊎◌, ℕ, List, ◌∷◌, ◌++◌, codes, Bool, true, false, not, ◌&&◌, ◌==◌}
use Rattle.std.specs.Prelude.{Option, Result, Ok, Err, IfOk, IsSome}
use Rattle.std.specs.Io.KnownBytes.{Keeps}
use Rattle.std.specs.List.{list_any}
use Rattle.teco_base.specs.declared.bytes.TheConstants.{ESC}
use Rattle.teco_base.specs.declared.code.Code.TheVariants as code
use Rattle.teco_model.specs.Files.{Files}
use Rattle.teco_model.specs.Run.{Stops, StopCounts}
use Rattle.teco_model.specs.Session.{code_of, is_code, lines_of, without_typed}
use Rattle.teco_model.specs.State.{World, start}
use Rattle.teco_model.specs.declared.stop.Stop.{Stop}
use Rattle.teco_model.specs.declared.stop.Stop.TheVariants as stop
use Rattle.teco_model.specs.Macros.{Needs}
use Rattle.teco_session.specs.Answers.{Said}
use Rattle.teco_session.specs.Output.{Writes}
use Rattle.teco_session.specs.declared.fault.SessionFault.{SessionFault}
use Rattle.teco_session.specs.declared.fault.SessionFault.TheVariants as fault
use Rattle.teco_session.specs.declared.sessions.Done.{Done}
use Rattle.teco_apply.specs.Sure.{PromisedCall, MOST, Runs, IsMissing}
use Rattle.teco_apply.specs.declared.ready.NotReady.{NotReady}
use Rattle.teco_apply.specs.declared.ready.NotReady.TheVariants.{NoInput, NoOutput, Argument, Memory}

-- ---- command strings
-- what opens the input and the output, and reads the first page
abbrev pub opening : List ℕ → List ℕ → List ℕ
opening source target = (((codes "ER" ++ source) ++ ESC ∷ codes "EW") ++ target) ++ ESC ∷ codes "Y"

-- names that it opens as they are: ESC would end one
abbrev pub has_esc : List ℕ → Bool
has_esc name = list_any (λ b. b == ESC) name

abbrev pub are_plain : List ℕ → List ℕ → Bool
are_plain source target = not (has_esc source) && not (has_esc target)

-- what writes the rest and closes the output, and what drops it
abbrev pub closing : List ℕ
closing = codes "EC"

abbrev pub dropping : List ℕ
dropping = codes "EK"

-- ---- runs
-- what stops a macro that is not run
abbrev pub stop_of : NotReady → Stop
stop_of NoInput = stop.Error code.Nfi
stop_of NoOutput = stop.Error code.Nfo
stop_of Argument = stop.Error code.Arg
stop_of Memory = stop.Memory

-- a file that it needs is not open, or there is no memory; the argument is one that it takes
abbrev pub Lacks : Needs → Files → NotReady → Type 0
Lacks needs files NoInput = IsMissing needs.input files.input
Lacks needs files NoOutput = IsMissing needs.output files.output
Lacks needs files Argument = ⊥
Lacks needs files Memory = ⊤

-- an input and an output are open
pub record BothOpen (files : Files) : Type 0 where
  pub input : IsSome files.input
  pub output : IsSome files.output

-- the macro is not run
pub record IsNotRun (needs : Needs) (old : World) (stop : Stop) (new : World) : Type 0 where
  pub why : NotReady
  pub stopped : stop ≡ stop_of why
  pub lacks : Lacks needs old.files why
  pub stays : new ≡ old

-- the macro is not run, as memory for its library's texts is refused
pub record WantsMemory (old : World) (answer : Stop) (new : World) : Type 0 where
  pub stopped : answer ≡ stop.Memory
  pub stays : new ≡ old

-- a command string is run
abbrev pub TextStops : List ℕ → World → Stop → World → Type 0
TextStops text old stop new = Stops (start text old) MOST stop new

-- The macro is run, or it is not; where both files are known to be open, only want of memory keeps it from that.
abbrev pub MacroStops : Bool → PromisedCall → World → Stop → World → Type 0
MacroStops true call old stop new = Runs call stop old new ⊎ WantsMemory old stop new
MacroStops false call old stop new = Runs call stop old new ⊎ IsNotRun call.promise.needs old stop new

-- What a run types is written, and its code line; or with a fault a part of that. Says whether there is a code
-- line. The host's count of failures goes from f to g: it rises where the host stops the run, and nowhere else.
pub record RunWrites (Ran : Stop → World → Type 0) (new : World) (f g : ℕ) (sink sunk : Option (List ℕ))
    (result : Result Bool SessionFault) : Type 0 where
  pub stop : Stop
  pub after : World
  pub ran : Ran stop after
  pub counted : StopCounts stop f g
  pub stays : new ≡ without_typed after
  pub writes : Writes sink sunk (lines_of stop after) result
  pub told : IfOk result (λ coded. coded ≡ is_code (code_of stop))

-- what some runs do to what stays, to the host's count of failures and to what is written
abbrev pub Course : Type 1
Course = World → World → ℕ → ℕ → Option (List ℕ) → Option (List ℕ) → Result Bool SessionFault → Type 0

abbrev pub AnswersText : List ℕ → Course
AnswersText text old new f g sink sunk result = RunWrites (TextStops text old) new f g sink sunk result

abbrev pub AnswersMacro : Bool → PromisedCall → Course
AnswersMacro opened call old new f g sink sunk result =
    RunWrites (MacroStops opened call old) new f g sink sunk result

-- ---- one after another
-- one run, and another behind it where it is no code and all is written
pub data Then (First Next : Course) (old new : World) (f g : ℕ) (sink sunk : Option (List ℕ))
    (result : Result Bool SessionFault) : Type 0 where
  stops : result ≢ Ok false → First old new f g sink sunk result
      → Then First Next old new f g sink sunk result
  goes_on :
      (mid : World) (count : ℕ) (written : Option (List ℕ)) →
      First old mid f count sink written (Ok false) → Next mid new count g written sunk result →
      Then First Next old new f g sink sunk result

-- the macro is run, and the output is closed
abbrev pub Finishes : Bool → PromisedCall → Course
Finishes opened call = Then (AnswersMacro opened call) (AnswersText closing)

-- the files are opened before
abbrev pub Edits : Bool → PromisedCall → List ℕ → Course
Edits opened call text = Then (AnswersText text) (Finishes opened call)

-- behind a code the output is dropped, and what stops that is not told
pub record DropsOutput (old new : World) (f g : ℕ) : Type 0 where
  pub stop : Stop
  pub stops : TextStops dropping old stop new
  pub counted : StopCounts stop f g

abbrev pub DropsIfCoded : Result Bool SessionFault → World → World → ℕ → ℕ → Type 0
DropsIfCoded (Ok true) old new f g = DropsOutput old new f g
DropsIfCoded (Ok false) old new f g = (new ≡ old) × (g ≡ f)
DropsIfCoded (Err cannot) old new f g = (new ≡ old) × (g ≡ f)

-- The edit of one file into another. Where no name has an ESC, both are open when the macro is to be run.
pub record Applies (call : PromisedCall) (source target : List ℕ) (old new : World) (f g : ℕ)
    (sink sunk : Option (List ℕ))
    (result : Result Done SessionFault) : Type 0 where
  pub edited : World
  pub count : ℕ
  pub line : Result Bool SessionFault
  pub edits : Edits (are_plain source target) call (opening source target) old edited f count sink sunk line
  pub drops : DropsIfCoded line edited new count g
  pub said : Said line false result

-- What comes of it. With an argument that the macro does not take, or without memory for the first command string,
-- nothing is done.
abbrev pub Applied : PromisedCall → List ℕ → List ℕ → World → World → ℕ → ℕ → Option (List ℕ)
    → Option (List ℕ) → Result Done SessionFault → Type 0
Applied call source target old new f g sink sunk (Ok done) =
    Applies call source target old new f g sink sunk (Ok done)
Applied call source target old new f g sink sunk (Err fault.Write) =
    Applies call source target old new f g sink sunk (Err fault.Write)
Applied call source target old new f g sink sunk (Err fault.Memory) = (new ≡ old) × Keeps sink sunk
Applied call source target old new f g sink sunk (Err fault.Argument) = (new ≡ old) × Keeps sink sunk
Applied call source target old new f g sink sunk (Err fault.Read) = ⊥

-- ---- counts, for every host
-- The host's count of failures rises only in runs of which one is a code, or whose bytes cannot be written; no
-- other fault comes.
abbrev pub LineCounts : Result Bool SessionFault → ℕ → ℕ → Type 0
LineCounts (Ok true) f g = f ≤ g
LineCounts (Ok false) f g = g ≡ f
LineCounts (Err fault.Write) f g = f ≤ g
LineCounts (Err fault.Memory) f g = ⊥
LineCounts (Err fault.Argument) f g = ⊥
LineCounts (Err fault.Read) f g = ⊥

-- Dropping the output comes behind a code alone.
abbrev pub DropCounts : Result Bool SessionFault → ℕ → ℕ → Type 0
DropCounts (Ok true) f g = f ≤ g
DropCounts (Ok false) f g = g ≡ f
DropCounts (Err cannot) f g = g ≡ f

-- Failures are counted over the whole edit: with an argument that is not taken, or without memory for the first
-- command string, no call of the host is made.
abbrev pub EditCounts : Result Done SessionFault → ℕ → ℕ → Type 0
EditCounts (Ok done) f g = LineCounts (Ok done.coded) f g
EditCounts (Err fault.Write) f g = f ≤ g
EditCounts (Err fault.Memory) f g = g ≡ f
EditCounts (Err fault.Argument) f g = g ≡ f
EditCounts (Err fault.Read) f g = ⊥
