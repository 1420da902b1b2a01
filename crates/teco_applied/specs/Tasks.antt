-- What a task is about, and what is printed where it is refused.
use Rattle.std.specs.Prelude.{ℕ, ◌≡◌, ◌⊎◌, ⊤, List, ◌++◌, codes, Option, Some, None, Result, Ok, Err}
use Rattle.std.specs.Io.KnownBytes.{Appends}
use Rattle.teco_jobs.specs.Edits.{EditsBy, Prints, Trace}
use Rattle.teco_jobs.specs.declared.names.Names.{Names}
use Rattle.teco_jobs.specs.declared.jobs.Task.{Task}
use Rattle.teco_applied.specs.declared.subject.Subject.{Subject}
use Rattle.teco_apply.specs.Sure.{PromisedCall}
use Rattle.teco_library.specs.Library.{LibraryFile}
use Rattle.teco_hosts.specs.HostFiles.{Telling}
use Rattle.teco_tools.specs.declared.fault.ToolFault.{ToolFault}
use Rattle.teco_tools.specs.declared.fault.ToolFault.TheVariants as tool
use Rattle.teco_console.specs.declared.fault.AnswerFault.TheVariants as answering
use Rattle.teco_acceptance.specs.Accepted.{IsAccepted, promise_of}
use Rattle.teco_acceptance.specs.Lines.{refused_line}
use Rattle.teco_acceptance.specs.declared.acceptance.Accepted.{Accepted}
use Rattle.teco_policy.specs.declared.policy.Policy.{Policy}
use Rattle.teco_console.specs.declared.outcome.Outcome.{Outcome}
use Rattle.teco_console.specs.declared.outcome.Outcome.TheVariants.{Done, Coded, Refused}
use Rattle.teco_verify.specs.declared.refusal.Refusal.{Refusal}

-- A macro is refused with the line of a refusal; with a fault no more is said of what was written.
abbrev pub Refuses : {E : Type 0} → Option (List ℕ) → Option (List ℕ) → Result Outcome E → Type 0
Refuses old new (Ok outcome) =
    (outcome ≡ Refused) × ((refusal : Refusal) × Appends old new (refused_line refusal))
Refuses old new (Err fault) = ⊤

-- Where a library is read, nothing is printed; where there is none, its refusal is.
abbrev pub ReadsSubject : Option (List ℕ) → Option (List ℕ) → Result (Option Subject) ToolFault → Type 0
ReadsSubject old new (Ok (Some subject)) = new ≡ old
ReadsSubject old new (Ok None) = Prints old new
ReadsSubject old new (Err fault) = ⊤

-- What is answered where nothing is edited: the macro or its library is refused, or one file is to be both read and
-- written.
abbrev pub AnswersNone : Option (List ℕ) → Option (List ℕ) → Result Outcome ToolFault → Type 0
AnswersNone old new (Ok Done) = ⊥
AnswersNone old new (Ok Coded) = Appends old new (codes "?ARG\r\n")
AnswersNone old new (Ok Refused) = Prints old new
AnswersNone old new (Err fault) = ⊤

-- nothing is edited, and no file is touched
pub record EditsNone (files after : Telling) (begun left : Trace) (result : Result Outcome ToolFault) : Type 0 where
  pub files_stay : after ≡ files
  pub failures_stay : left.failures ≡ begun.failures
  pub answers : AnswersNone begun.written left.written result

-- policies that are asked for, and behind them others: those that the library asks for
abbrev pub AskFor : List Policy → List Policy → Type 0
AskFor asked all = (more : List Policy) × (all ≡ asked ++ more)

-- the macro of a task, which is accepted, and the argument that it is given
abbrev pub task_call : Task → Accepted → PromisedCall
task_call task accepted = record { promise = promise_of accepted; given = task.argument }

-- a file is edited by the macro of a library that is accepted
pub record EditsAccepted (task : Task) (library : LibraryFile) (names : Names) (files after : Telling)
    (begun left : Trace) (result : Result Outcome ToolFault) : Type 0 where
  pub found : Accepted
  pub accepted : IsAccepted library task.entry found
  pub edits : EditsBy task (task_call task found) names files after begun left result

-- by a macro of the library that is read, if one is; or nothing is edited
abbrev pub Applies : Task → Names → Telling → Telling → Trace → Trace → Result Outcome ToolFault → Type 0
Applies task names files after begun left result =
    EditsNone files after begun left result
    ⊎ ((library : LibraryFile) × EditsAccepted task library names files after begun left result)

-- What is answered is told; or memory is told to be wanting.
abbrev pub IsTold : Result Outcome ToolFault → Result Outcome ToolFault → Type 0
IsTold answer result = (result ≡ answer) ⊎ (result ≡ Err (tool.Answer answering.Memory))

-- and that is told
pub record AppliesAsAsked (task : Task) (names : Names) (files after : Telling) (begun left : Trace)
    (result : Result Outcome ToolFault) : Type 0 where
  pub answer : Result Outcome ToolFault
  pub applies : Applies task names files after begun left answer
  pub told : IsTold answer result
