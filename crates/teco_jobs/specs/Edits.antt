-- What the edits of a task do, and what is answered of them.
use Rattle.std.specs.Io.KnownBytes.{Appends}
use Rattle.std.specs.Prelude.{ℕ, ◌≡◌, ◌⊎◌, List, Bool, true, false, Option, Result, Ok, Err, IsErr}
use Rattle.teco_jobs.specs.Strict.{OnTerms}
use Rattle.teco_jobs.specs.declared.jobs.Job.{Job}
use Rattle.teco_jobs.specs.declared.names.Names.{Names}
use Rattle.teco_jobs.specs.declared.jobs.Task.{Task}
use Rattle.teco_jobs.specs.declared.jobs.Watched.{Watched}
use Rattle.teco_apply.specs.ByPages.{FileEdited}
use Rattle.teco_apply.specs.InPlace.{IsRewritten}
use Rattle.teco_apply.specs.Sure.{PromisedCall}
use Rattle.teco_apply.specs.Touched.{EditTouches}
use Rattle.teco_apply.specs.declared.by_pages.Edited.{Edited}
use Rattle.teco_hosts.specs.HostFiles.{Telling}
use Rattle.teco_run.specs.Holdings.{Holdings, Joined}
use Rattle.teco_session.specs.declared.fault.SessionFault.{SessionFault}
use Rattle.teco_tools.specs.Scripts.{new_machine}
use Rattle.teco_tools.specs.Starts.{IsBare, Prepares}
use Rattle.teco_tools.specs.declared.fault.ToolFault.{ToolFault}
use Rattle.teco_tools.specs.declared.fault.ToolFault.TheVariants as tool
use Rattle.teco_console.specs.declared.outcome.Outcome.{Outcome}
use Rattle.teco_console.specs.declared.outcome.Outcome.TheVariants.{Done, Coded, Refused}

-- the macro of a job, and the argument that it is given
abbrev pub call_of : Job → PromisedCall
call_of job = record { promise = job.promise.now; given = job.task.now.argument }

-- a host's count of failures, and what is written, as far as it is known
pub record Trace : Type 0 where
  pub failures : ℕ
  pub written : Option (List ℕ)

abbrev pub trace_of : ℕ → Option (List ℕ) → Trace
trace_of failures written = record { failures = failures; written = written }

-- some text was written
abbrev pub Prints : Option (List ℕ) → Option (List ℕ) → Type 0
Prints old new = (text : List ℕ) × Appends old new text

-- ---- answers
-- An edit that was refused a run is refused, and one that met a code is coded. Any other is done; or refused, where all
-- of the file was wanted and bytes are left unedited.
abbrev pub IsOutcome : Bool → Bool → Bool → Outcome → Type 0
IsOutcome wants_all true coded outcome = outcome ≡ Refused
IsOutcome wants_all false true outcome = outcome ≡ Coded
IsOutcome true false false outcome = (outcome ≡ Done) ⊎ (outcome ≡ Refused)
IsOutcome false false false outcome = outcome ≡ Done

-- It is a fault only where a run was refused.
abbrev pub IsAnswer : Bool → Edited → Result Outcome ToolFault → Type 0
IsAnswer wants_all edited (Ok outcome) = IsOutcome wants_all edited.refused edited.coded outcome
IsAnswer wants_all edited (Err fault) = edited.refused ≡ true

-- what was seen of an edit, if it came to its end
abbrev pub IsSeen : Result Edited SessionFault → Result Watched ToolFault → Type 0
IsSeen (Ok edited) (Ok watched) = watched.edited ≡ edited
IsSeen (Ok edited) (Err why) = ⊥
IsSeen (Err fault) (Ok watched) = ⊥
IsSeen (Err fault) (Err why) = why ≡ tool.Session fault

-- what is answered of that
abbrev pub IsAnswerTo : Task → Result Watched ToolFault → Result Outcome ToolFault → Type 0
IsAnswerTo task (Ok watched) result = IsAnswer task.wants_all watched.edited result
IsAnswerTo task (Err why) result = result ≡ Err why

-- what is answered of an edit, or of what broke it off
abbrev pub IsAnswerOf : Task → Result Edited SessionFault → Result Outcome ToolFault → Type 0
IsAnswerOf task (Ok edited) result = IsAnswer task.wants_all edited result
IsAnswerOf task (Err fault) result = result ≡ Err (tool.Session fault)

-- ---- a file into another
-- one edit, as its crate promises it on the task's terms, and the files that it touches
pub record Edits (task : Task) (call : PromisedCall) (names : Names) (old new : Holdings) (before after : Telling)
    (begun left : Trace) (edited : Result Edited SessionFault) : Type 0 where
  pub edits :
      OnTerms task.is_strict call (λ order. Joined (λ was is. FileEdited task.pages order names.source.now
      names.target.now was is begun.failures left.failures begun.written left.written edited) old new before after)
  pub touches : EditTouches call names.source.now names.target.now edited old new before after

-- an edit was watched
pub record Watches (task : Task) (call : PromisedCall) (names : Names) (old new : Holdings) (before after : Telling)
    (begun left : Trace) (result : Result Watched ToolFault) : Type 0 where
  pub edited : Result Edited SessionFault
  pub edit : Edits task call names old new before after begun left edited
  pub seen : IsSeen edited result

-- an edit on a machine, and what is answered of it
pub record EditsOn (task : Task) (call : PromisedCall) (names : Names) (old new : Holdings) (before after : Telling)
    (begun left : Trace) (result : Result Outcome ToolFault) : Type 0 where
  pub edited : Result Edited SessionFault
  pub edit : Edits task call names old new before after begun left edited
  pub answers : IsAnswerOf task edited result

-- from a machine and files that are prepared: a new one and the files as they are, where nothing is to be prepared
pub record EditsFrom (task : Task) (call : PromisedCall) (names : Names) (files after : Telling) (begun left : Trace)
    (result : Result Outcome ToolFault) : Type 0 where
  pub old : Holdings
  pub new : Holdings
  pub before : Telling
  pub failures : ℕ
  pub prepared : Joined (Prepares task.start) new_machine old files before
  pub same_machine : IsBare task.start → old ≡ new_machine
  pub same_files : IsBare task.start → before ≡ files
  pub same_failures : IsBare task.start → failures ≡ begun.failures
  pub edits :
      EditsOn task call names old new before after (trace_of failures begun.written) left result

-- or they could not be prepared, and nothing is written
abbrev pub EditsBy : Task → PromisedCall → Names → Telling → Telling → Trace → Trace → Result Outcome ToolFault → Type 0
EditsBy task call names files after begun left result =
    (IsErr result × (left.written ≡ begun.written))
    ⊎ EditsFrom task call names files after begun left result

-- ---- a file in place
-- one edit in place, as its crate promises it on the task's terms
abbrev pub Rewrites : Task → PromisedCall → List ℕ → Bool → Holdings → Holdings → Telling → ℕ → Option (List ℕ)
    → Option (List ℕ) → Result Edited SessionFault → Type 0
Rewrites task call name replaces old new after f sink sunk edited =
    OnTerms task.is_strict call (λ order. IsRewritten task.pages order name replaces old new after f sink sunk edited)

-- an edit in place was watched
pub record WatchesFile (task : Task) (call : PromisedCall) (name : List ℕ) (replaces : Bool) (old new : Holdings)
    (after : Telling) (f : ℕ) (sink sunk : Option (List ℕ)) (result : Result Watched ToolFault) : Type 0 where
  pub edited : Result Edited SessionFault
  pub edit : Rewrites task call name replaces old new after f sink sunk edited
  pub seen : IsSeen edited result

-- an edit in place on a machine, and what is answered of it
pub record RewritesOn (task : Task) (call : PromisedCall) (name : List ℕ) (replaces : Bool) (old new : Holdings)
    (after : Telling) (f : ℕ) (sink sunk : Option (List ℕ)) (result : Result Outcome ToolFault) : Type 0 where
  pub edited : Result Edited SessionFault
  pub edit : Rewrites task call name replaces old new after f sink sunk edited
  pub answers : IsAnswerOf task edited result

-- from a machine that is prepared: a new one, where nothing is to be
pub record RewritesFrom (task : Task) (call : PromisedCall) (name : List ℕ) (replaces : Bool) (after : Telling) (f : ℕ)
    (sink sunk : Option (List ℕ)) (result : Result Outcome ToolFault) : Type 0 where
  pub old : Holdings
  pub new : Holdings
  pub same_machine : IsBare task.start → old ≡ new_machine
  pub edit : RewritesOn task call name replaces old new after f sink sunk result

-- or it could not be prepared, and nothing is written
abbrev pub RewritesBy : Task → PromisedCall → List ℕ → Bool → Telling → ℕ → Option (List ℕ) → Option (List ℕ)
    → Result Outcome ToolFault → Type 0
RewritesBy task call name replaces after f sink sunk result =
    (IsErr result × (sunk ≡ sink)) ⊎ RewritesFrom task call name replaces after f sink sunk result
