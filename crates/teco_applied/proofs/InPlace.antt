-- What is answered of files that are edited in place.
use Rattle.std.proofs.Common.{◌≡◌, sym, subst, inl, inr, Option, List, [], Result, Ok, Err, IsErr, ℕ}
use Rattle.std.specs.Prelude.{IfOk}
use Rattle.std.proofs.KnownBytes.{Appends-nil}
use Rattle.teco_applied.specs.InPlace.{AreAsked, EditsByJob, EditsIfAny, EditsNoFile, EditsSubject, EditsTask}
use Rattle.teco_edits.specs.Files.{EditsFiles}
use Rattle.teco_edits.specs.declared.editing.InPlaceEdits.{InPlaceEdits}
use Rattle.teco_edits.specs.declared.outcome.EditOutcome.{EditOutcome}
use Rattle.teco_edits.specs.declared.outcome.EditOutcome.TheVariants.{Refused}
use Rattle.teco_jobs.specs.Edits.{Prints}
use Rattle.teco_jobs.specs.declared.jobs.Job.{Job}
use Rattle.teco_jobs.specs.declared.jobs.Task.{Task}
use Rattle.teco_library.specs.Library.{LibraryFile}
use Rattle.teco_policy.specs.declared.policy.Policy.{Policy}
use Rattle.teco_tools.specs.declared.fault.ToolFault.{ToolFault}
use Rattle.teco_acceptance.specs.Accepted.{IsAccepted, promise_of}
use Rattle.teco_acceptance.specs.declared.acceptance.Accepted.{Accepted}

-- the edits of a job are those of its task and its macro
pub by_job : (given : InPlaceEdits) (task : Task) (found : Accepted) (job : Job) (old new : Option (List ℕ))
    (result : Result EditOutcome ToolFault) → job.task.now ≡ task → job.promise.now ≡ promise_of found
    → EditsFiles given job old new result → EditsIfAny given task found old new result
by_job given task found job old new result same promised edits =
    inr (record { job = job; of_task = same; of_promise = promised; edits = edits })

pub subject_edits : (given : InPlaceEdits) (task : Task) (library : LibraryFile) (found : Accepted)
    (old new : Option (List ℕ)) (result : Result EditOutcome ToolFault) → IsAccepted library task.entry found
    → EditsIfAny given task found old new result → EditsSubject given task old new result
subject_edits given task library found old new result accepted (inl none) = inl none
subject_edits given task library found old new result accepted (inr edits) =
    inr (library, record { found = found; accepted = accepted; edits = edits })

-- edits by the library that is read, with its policies behind those that are asked for
pub read_edits : (given all : InPlaceEdits) (asked : List Policy) (task : Task) (old new : Option (List ℕ))
    (result : Result EditOutcome ToolFault) → AreAsked given asked all → EditsSubject all task old new result
    → EditsTask given asked task old new result
read_edits given all asked task old new result are_asked (inl none) = inl none
read_edits given all asked task old new result are_asked (inr (library, edits)) =
    inr (record { library = library; all = all; are_asked = are_asked; edits = edits })

-- nothing is printed
pub nothing : (old new : Option (List ℕ)) → new ≡ old → Prints old new
nothing old new same = subst (Prints old) (sym same) ([], Appends-nil old)

-- a refusal without a line, or a fault
pub no_line : (old new : Option (List ℕ)) (result : Result EditOutcome ToolFault) → new ≡ old
    → IfOk result (λ outcome. outcome ≡ Refused) → EditsNoFile old new result
no_line old new (Ok outcome) same refused =
    subst (λ it. EditsNoFile old new (Ok it)) (sym refused) (nothing old new same)
no_line old new (Err fault) same refused = tt

pub failed : (old new : Option (List ℕ)) (result : Result EditOutcome ToolFault) → IsErr result
    → EditsNoFile old new result
failed old new (Ok outcome) is_err = absurd (cc)
failed old new (Err fault) is_err = tt
