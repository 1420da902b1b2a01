-- What the edit of files in place does, by the macro that a task is about.
use Rattle.std.specs.Prelude.{ℕ, ◌≡◌, ◌⊎◌, ⊤, List, Option, Result, Ok, Err}
use Rattle.teco_applied.specs.Tasks.{AskFor}
use Rattle.teco_edits.specs.Files.{EditsFiles}
use Rattle.teco_edits.specs.declared.editing.InPlaceEdits.{InPlaceEdits}
use Rattle.teco_edits.specs.declared.outcome.EditOutcome.{EditOutcome}
use Rattle.teco_edits.specs.declared.outcome.EditOutcome.TheVariants.{Done, WouldChange, Refused, Failed}
use Rattle.teco_jobs.specs.Edits.{Prints}
use Rattle.teco_jobs.specs.declared.jobs.Job.{Job}
use Rattle.teco_jobs.specs.declared.jobs.Task.{Task}
use Rattle.teco_library.specs.Library.{LibraryFile}
use Rattle.teco_policy.specs.declared.policy.Policy.{Policy}
use Rattle.teco_tools.specs.declared.fault.ToolFault.{ToolFault}
use Rattle.teco_acceptance.specs.Accepted.{IsAccepted, promise_of}
use Rattle.teco_acceptance.specs.declared.acceptance.Accepted.{Accepted}

-- No file is edited: that is refused, or a fault comes before.
abbrev pub EditsNoFile : Option (List ℕ) → Option (List ℕ) → Result EditOutcome ToolFault → Type 0
EditsNoFile old new (Ok Done) = ⊥
EditsNoFile old new (Ok WouldChange) = ⊥
EditsNoFile old new (Ok Failed) = ⊥
EditsNoFile old new (Ok Refused) = Prints old new
EditsNoFile old new (Err fault) = ⊤

-- files are edited by a job of a task, by what an accepted macro promises
pub record EditsByJob (given : InPlaceEdits) (task : Task) (found : Accepted) (old new : Option (List ℕ))
    (result : Result EditOutcome ToolFault) : Type 0 where
  pub job : Job
  pub of_task : job.task.now ≡ task
  pub of_promise : job.promise.now ≡ promise_of found
  pub edits : EditsFiles given job old new result

-- or none is
abbrev pub EditsIfAny : InPlaceEdits → Task → Accepted → Option (List ℕ) → Option (List ℕ)
    → Result EditOutcome ToolFault → Type 0
EditsIfAny given task found old new result = EditsNoFile old new result ⊎ EditsByJob given task found old new result

-- by a macro of a library that is accepted
pub record EditsByAccepted (given : InPlaceEdits) (task : Task) (library : LibraryFile) (old new : Option (List ℕ))
    (result : Result EditOutcome ToolFault) : Type 0 where
  pub found : Accepted
  pub accepted : IsAccepted library task.entry found
  pub edits : EditsByJob given task found old new result

abbrev pub EditsSubject : InPlaceEdits → Task → Option (List ℕ) → Option (List ℕ) → Result EditOutcome ToolFault
    → Type 0
EditsSubject given task old new result =
    EditsNoFile old new result ⊎ ((library : LibraryFile) × EditsByAccepted given task library old new result)

-- the same edits, whose policies are those that are asked for and, behind them, those of the library
pub record AreAsked (given : InPlaceEdits) (asked : List Policy) (all : InPlaceEdits) : Type 0 where
  pub others : record all { policies = given.policies } ≡ given
  pub policies : AskFor asked all.policies.now

-- by a macro of the library that is read, if one is
pub record EditsRead (given : InPlaceEdits) (asked : List Policy) (task : Task) (old new : Option (List ℕ))
    (result : Result EditOutcome ToolFault) : Type 0 where
  pub library : LibraryFile
  pub all : InPlaceEdits
  pub are_asked : AreAsked given asked all
  pub edits : EditsByAccepted all task library old new result

abbrev pub EditsTask : InPlaceEdits → List Policy → Task → Option (List ℕ) → Option (List ℕ)
    → Result EditOutcome ToolFault → Type 0
EditsTask given asked task old new result =
    EditsNoFile old new result ⊎ EditsRead given asked task old new result
