-- Which files the run of a verified macro touches, which are none, and an edit by it.
use Rattle.std.specs.Prelude.{ℕ, ◌≡◌, ◌⊎◌, List, [], Option, Result, Ok, Err}
use Rattle.teco_apply.specs.Apply.{closing, dropping, opening}
use Rattle.teco_apply.specs.ByPages.{gathering, to_start, turning}
use Rattle.teco_apply.specs.Sure.{PromisedCall, IsReady, MOST, loaded}
use Rattle.teco_model.specs.State.{World}
use Rattle.teco_hosts.specs.Events.{Event}
use Rattle.teco_hosts.specs.HostFiles.{Telling}
use Rattle.teco_hosts.specs.Noting.{noted_left}
use Rattle.teco_hosts.specs.Possible.{AreOpenedAnew, FitWhere, GivesMeasured, SomeFit}
use Rattle.teco_run.specs.Holdings.{Holdings, Joined}
use Rattle.teco_run.specs.Touched.{TouchesBetween}
use Rattle.teco_session.specs.Touched.{TouchesByRun, TouchesByString}
use Rattle.teco_session.specs.declared.fault.SessionFault.{SessionFault}
use Rattle.teco_session.specs.declared.fault.SessionFault.TheVariants as fault

-- Before the first file that was touched some files fitted what was noted, and the macro is ready for none that did.
pub record WasNotReady (ready : World → Type 0) (old new : Holdings) (before after : Telling) : Type 0 where
  pub touched : List Event
  pub mid : Holdings
  pub until : Telling
  pub quiet : TouchesBetween [] old mid before until
  pub others : TouchesBetween touched mid new until after
  pub fitted : SomeFit old.held.output before until
  pub unready : Joined (λ was is. ¬ ready was) old mid before until

-- Where the host notes its calls, no file was opened, named or dropped, and some files fit what was noted; or the
-- macro was not ready.
abbrev pub TouchesNone : (World → Type 0) → Holdings → Holdings → Telling → Telling → Type 0
TouchesNone ready old new before after =
    (TouchesBetween [] old new before after × SomeFit old.held.output before after)
    ⊎ WasNotReady ready old new before after

-- a macro is ready where its library is loaded first
abbrev pub IsReadyLoaded : PromisedCall → World → Type 0
IsReadyLoaded call world = IsReady call.promise (loaded call.promise.library world)

-- ---- edits
-- the input was measured, or its host could not tell that: nothing else was noted
abbrev pub Measures : Holdings → Telling → Telling → Type 0
Measures held before after = (most : Option ℕ) × TouchesBetween (noted_left most) held held before after

-- the command strings of an edit behind the one that opens its files
abbrev pub IsOfPages : List ℕ → Type 0
IsOfPages string = (string ≡ turning) ⊎ (string ≡ gathering) ⊎ (string ≡ to_start) ⊎ (string ≡ closing)

-- What is done behind it, in turn: calls that touch no file, or measure the input; these command strings and the one
-- that drops the output, each of which touches just what its steps touch by the definition; runs of the macro, which
-- touch none.
pub data TouchesByParts (call : PromisedCall) : Holdings → Holdings → Telling → Telling → Type 0 where
  by_none : (old new : Holdings) (before after : Telling) → TouchesBetween [] old new before after
      → TouchesByParts call old new before after
  by_measure : (desk : Holdings) (before after : Telling) → Measures desk before after
      → TouchesByParts call desk desk before after
  by_string : (string : List ℕ) (old new : Holdings) (before after : Telling) → IsOfPages string
      → TouchesByString MOST string old new before after → TouchesByParts call old new before after
  by_dropping : (old new : Holdings) (before after : Telling) → TouchesByRun MOST dropping old new before after
      → TouchesByParts call old new before after
  by_macro : (old new : Holdings) (before after : Telling) → TouchesNone (IsReadyLoaded call) old new before after
      → TouchesByParts call old new before after
  in_turn : (old mid new : Holdings) (before until after : Telling) → TouchesByParts call old mid before until
      → TouchesByParts call mid new until after → TouchesByParts call old new before after

-- no input is opened that was opened before, and no more is given of one than was measured
pub record AreMeasuredAnew (output : Option (List ℕ)) (events : List Event) : Type 0 where
  pub opened : AreOpenedAnew output events
  pub gives : GivesMeasured events

-- a command string that opens the files is run once, before all else
pub record TouchesOpening (call : PromisedCall) (string : List ℕ) (old new : Holdings) (before after : Telling) :
    Type 0 where
  pub mid : Holdings
  pub until : Telling
  pub opened : TouchesByString MOST string old mid before until
  pub behind : TouchesByParts call mid new until after

-- The edit of one file into another.
pub record TouchesInEdit (call : PromisedCall) (source target : List ℕ) (old new : Holdings) (before after : Telling) :
    Type 0 where
  pub opened : TouchesOpening call (opening source target) old new before after
  pub touched : List Event
  pub notes : TouchesBetween touched old new before after
  pub possible : FitWhere (AreMeasuredAnew old.held.output) old.held.output before after

-- With an argument that is not taken, or without memory for the first command string, no call is made.
abbrev pub EditTouches : {X : Type 0} → PromisedCall → List ℕ → List ℕ → Result X SessionFault → Holdings → Holdings
    → Telling
    → Telling
    → Type 0
EditTouches call source target (Ok edited) old new before after = TouchesInEdit call source target old new before after
EditTouches call source target (Err fault.Write) old new before after =
    TouchesInEdit call source target old new before after
EditTouches call source target (Err other) old new before after = (new ≡ old) × (after ≡ before)
