-- What the list of a macro's steps on a file follows.
use Rattle.std.specs.Prelude.{ℕ, ◌≡◌, ⊤, Option, Some, None, Result, Ok, Err}
use Rattle.teco_jobs.specs.Following.{Follows}
use Rattle.teco_jobs.specs.declared.jobs.Task.{Task}
use Rattle.teco_jobs.specs.declared.following.Followed.{Followed}
use Rattle.teco_apply.specs.Sure.{call_text, kept_loaded}
use Rattle.teco_options.specs.declared.editing.PageChoice.{PageChoice}
use Rattle.teco_options.specs.declared.editing.PageChoice.TheVariants.{First, Each, Whole}
use Rattle.teco_library.specs.Library.{LibraryFile}
use Rattle.teco_model.specs.State.{start}
use Rattle.teco_model.specs.declared.stop.Stop.{Stop}
use Rattle.teco_model.specs.declared.stop.Stop.TheVariants as stop
use Rattle.teco_hosts.specs.HostFiles.{Telling}
use Rattle.teco_run.specs.Holdings.{Holdings}
use Rattle.teco_run.specs.Executions.{Execution, state_at}
use Rattle.teco_run.specs.declared.site.Stopped.{Stopped}
use Rattle.teco_tools.specs.declared.fault.ToolFault.{ToolFault}
use Rattle.teco_console.specs.declared.outcome.Outcome.{Outcome}
use Rattle.teco_console.specs.declared.outcome.Outcome.TheVariants.{Done, Coded, Refused}

-- the steps that are listed are those of the call of the macro
pub record FollowsCall (task : Task) (most : ℕ) (old new : Holdings) (before after : Telling) (followed : Followed)
    : Type 0 where
  pub to : Execution
  pub follows :
      Follows most (start (call_text task.entry task.argument)) (state_at to) old new before after (Ok followed)

abbrev pub FollowsMacro : Task → ℕ → Holdings → Holdings → Telling → Telling → Result Followed ToolFault → Type 0
FollowsMacro task most old new before after (Ok followed) = FollowsCall task most old new before after followed
FollowsMacro task most old new before after (Err fault) = ⊤

-- it is done where the macro comes to its end, and else a code
abbrev pub outcome_at : Stop → Outcome
outcome_at (stop.Ended n) = Done
outcome_at (stop.Exit n) = Done
outcome_at (stop.Error c) = Coded
outcome_at stop.Limit = Coded
outcome_at stop.Memory = Coded
outcome_at (stop.HostFault fault) = Coded

-- and done where the most steps are listed
abbrev pub outcome_of : Option Stopped → Outcome
outcome_of None = Done
outcome_of (Some stopped) = outcome_at stopped.stop

pub record FollowsTo (task : Task) (most : ℕ) (old new : Holdings) (before after : Telling) (outcome : Outcome)
    : Type 0 where
  pub followed : Followed
  pub call : FollowsCall task most old new before after followed
  pub answered : outcome ≡ outcome_of followed.stopped

-- the macro is followed once
abbrev pub FollowsOnce : Task → ℕ → Holdings → Holdings → Telling → Telling → Result Outcome ToolFault → Type 0
FollowsOnce task most old new before after (Ok outcome) = FollowsTo task most old new before after outcome
FollowsOnce task most old new before after (Err fault) = ⊤

-- Where the pages are edited each by itself, no more is promised here.
abbrev pub FollowsPages : PageChoice → Task → ℕ → Holdings → Holdings → Telling → Telling → Result Outcome ToolFault
    → Type 0
FollowsPages First task most old new before after result = FollowsOnce task most old new before after result
FollowsPages Whole task most old new before after result = FollowsOnce task most old new before after result
FollowsPages Each task most old new before after result = ⊤

-- the library is loaded
abbrev pub with_library : LibraryFile → Holdings → Holdings
with_library library desk = record desk { kept = kept_loaded library.texts desk.kept }

abbrev pub TracesLoaded : Task → LibraryFile → ℕ → Holdings → Holdings → Telling → Telling → Result Outcome ToolFault
    → Type 0
TracesLoaded task library most old new before after (Ok outcome) =
    FollowsPages task.pages task most (with_library library old) new before after (Ok outcome)
TracesLoaded task library most old new before after (Err fault) = ⊤

-- behind the command string that opens the file
pub record TracesOpened (task : Task) (library : LibraryFile) (most : ℕ) (after : Telling) (outcome : Outcome)
    : Type 0 where
  pub old : Holdings
  pub new : Holdings
  pub before : Telling
  pub traces : TracesLoaded task library most old new before after (Ok outcome)

-- It is done only where the steps are listed; a code may come of the opening, too.
abbrev pub TracesLibrary : Task → LibraryFile → ℕ → Telling → Result Outcome ToolFault → Type 0
TracesLibrary task library most after (Ok Done) = TracesOpened task library most after Done
TracesLibrary task library most after (Ok Coded) = ⊤
TracesLibrary task library most after (Ok Refused) = ⊤
TracesLibrary task library most after (Err fault) = ⊤

-- by a macro of the library that is read
abbrev pub Traces : Task → ℕ → Telling → Result Outcome ToolFault → Type 0
Traces task most after (Ok Done) = (library : LibraryFile) × TracesOpened task library most after Done
Traces task most after (Ok Coded) = ⊤
Traces task most after (Ok Refused) = ⊤
Traces task most after (Err fault) = ⊤
