-- Files that are edited one after another.
use Rattle.std.proofs.Common.{◌≡◌, ◌∙◌, ◌+◌, ◌<◌, ◌≤◌, sym, subst, ap, ℕ, List, [], ◌∷◌, ◌++◌, length, take, drop}
use Rattle.std.proofs.Common.{get_or, Bool, Option, take-append-drop}
use Rattle.std.proofs.lemmas.List.{take_all, take_more, drop_more}
use Rattle.std.proofs.Common.{Result, Some, Ok, Err, OnOk, true, false}
use Rattle.std.specs.Io.KnownBytes.{Appends}
use Rattle.teco_console.specs.declared.outcome.Outcome.{Outcome}
use Rattle.teco_console.specs.declared.outcome.Outcome.TheVariants.{Coded}
use Rattle.teco_edit_parts.specs.Typed.{without_code}
use Rattle.teco_edits.specs.declared.editing.EditEnd.{EditEnd}
use Rattle.teco_edits.specs.Files.{EditsAsObject, EditsNamed, TellsDifference, TellsNoName, is_change, is_made}
use Rattle.teco_edits.specs.Files.{shown_typed}
use Rattle.teco_edits.specs.Objects.{file_object, remarks_of, report_object}
use Rattle.teco_edits.specs.Outcomes.{is_coded, of_runs}
use Rattle.teco_edits.specs.declared.object.FileReport.{FileReport}
use Rattle.teco_hosts.specs.HostFiles.{Telling}
use Rattle.teco_jobs.specs.Edits.{RewritesBy, call_of}
use Rattle.teco_pages.specs.Texts.{noted_texts}
use Rattle.teco_tools.specs.declared.fault.ToolFault.{ToolFault}
use Rattle.teco_jobs.specs.declared.jobs.Job.{Job}
use Rattle.teco_pages.specs.Policies.{IsMet}
use Rattle.teco_policy.specs.declared.policy.Policy.{Policy}
use Rattle.teco_edits.specs.Files.{BreaksOff, EditsEach, EditsNext, one_more}
use Rattle.teco_edit_parts.specs.declared.choosing.ChosenFile.{ChosenFile}
use Rattle.teco_edits.specs.declared.editing.InPlaceEdits.{InPlaceEdits}
use Rattle.teco_edits.specs.declared.editing.EditTally.{EditTally}

-- terms that are met, by what closes outputs
pub met_by : (policies : List Policy) (closes replaces : Bool) (noted : Telling) → closes ≡ replaces
    → IsMet policies closes noted → IsMet policies replaces noted
met_by policies closes replaces noted is met = subst (λ (it : Bool). IsMet policies it noted) is met

-- a file was edited as a host noted it, on terms that were met
pub named_by : (given : InPlaceEdits) (job work_job : Job) (name work_name : List ℕ) (replaces closes : Bool)
    (old new : Option (List ℕ)) (ended : EditEnd) (outcome : Outcome) (noted : Telling) (failures : ℕ)
    (before typed : List ℕ) (result : Result Outcome ToolFault)
    → RewritesBy work_job.task.now (call_of work_job) work_name replaces noted failures (Some before) (Some typed)
    result → work_job ≡ job → work_name ≡ name → before ≡ [] → result ≡ Ok outcome → ended.outcome ≡ outcome
    → closes ≡ replaces → IsMet given.policies.now closes noted → TellsDifference (noted_texts noted) ended
    → Appends old new (shown_typed given name (without_code typed (is_coded ended.outcome)))
    → EditsNamed given job name replaces old new ended
named_by given job work_job name work_name replaces closes old new ended outcome noted failures before typed result
    edit job_is name_is none ok same is met differs written = record {
      noted = noted;
      failures = failures;
      typed = typed;
      edit =
          subst (λ outcome. RewritesBy job.task.now (call_of job) name replaces noted failures (Some []) (Some typed)
          (Ok outcome)) (sym same)
          (subst (λ result. RewritesBy job.task.now (call_of job) name replaces noted failures (Some []) (Some typed)
          result) ok
          (subst (λ was. RewritesBy job.task.now (call_of job) name replaces noted failures (Some was) (Some typed)
          result) none
          (subst (λ name. RewritesBy job.task.now (call_of job) name replaces noted failures (Some before) (Some typed)
          result) name_is
          (subst (λ (job : Job). RewritesBy job.task.now (call_of job) work_name replaces noted failures (Some before)
          (Some typed) result) job_is edit))));
      met = met_by given.policies.now closes replaces noted is met;
      differs = differs;
      written = written;
    }

-- what an object says of a file that was edited on a console apart
pub object_by : (given : InPlaceEdits) (job : Job) (name : List ℕ) (old new before after : Option (List ℕ))
    (ended : EditEnd) (typed : List ℕ) (report : FileReport)
    → EditsNamed given job name (is_made given.change) before after ended → before ≡ Some [] → after ≡ Some typed
    → report.name.now ≡ name → report.changes ≡ is_change ended → report.outcome ≡ of_runs ended.outcome
    → report.typed.now ≡ typed → Appends old new (report_object report) → EditsAsObject given job name old new ended
object_by given job name old new before after ended typed report edit none is_typed is_name changes outcome same
    printed = record {
      typed = typed;
      edit =
          subst (λ it. EditsNamed given job name (is_made given.change) (Some []) it ended) is_typed
          (subst (λ it. EditsNamed given job name (is_made given.change) it after ended) none edit);
      remarks = remarks_of report;
      printed = subst (λ text. Appends old new text) spelled printed;
    }
  where
    spelled : report_object report
        ≡ file_object name (is_change ended) (of_runs ended.outcome) typed (remarks_of report)
    spelled = cc

-- what an object says of a name by which no file can be edited
pub no_name_by : {X E : Type 0} (prints : Bool) (name : List ℕ) (old new : Option (List ℕ)) (report : FileReport)
    (result : Result X E) → prints ≡ true → report.name.now ≡ name → report.changes ≡ false
    → report.outcome ≡ of_runs Coded → report.typed.now ≡ [] → OnOk result (Appends old new (report_object report))
    → OnOk result (TellsNoName prints name old new)
no_name_by prints name old new report (Ok done) is is_name changes outcome none printed =
    subst (λ it. TellsNoName it name old new) (sym is)
    (remarks_of report, subst (λ text. Appends old new text) spelled printed)
  where
    spelled : report_object report ≡ file_object name false (of_runs Coded) [] (remarks_of report)
    spelled = cc
no_name_by prints name old new report (Err fault) is is_name changes outcome none printed = tt

-- one file more
pub each_more : (given : InPlaceEdits) (job : Job) (old mid new : Option (List ℕ)) (files : List ChosenFile) (i : ℕ)
    (file : ChosenFile) (tally after : EditTally) → i < length files → file ≡ get_or files i file
    → EditsEach given job old (take i files) mid tally → EditsNext given job file mid new tally after
    → EditsEach given job old (take (i + 1) files) new after
each_more given job old mid new files i file tally after within is edited next =
    let more : take (i + 1) files ≡ take i files ++ file ∷ [] =
    take_more files i file within ∙ ap (λ it. take i files ++ it ∷ []) (sym is) in
    subst (λ front. EditsEach given job old front new after) (sym more)
    (one_more (take i files) mid tally file new after edited next)

-- all of them
pub each_all : (given : InPlaceEdits) (job : Job) (old new : Option (List ℕ)) (files : List ChosenFile) (i : ℕ)
    (tally : EditTally) → length files ≤ i → EditsEach given job old (take i files) new tally
    → EditsEach given job old files new tally
each_all given job old new files i tally beyond edited =
    subst (λ front. EditsEach given job old front new tally) (take_all i files beyond) edited

-- a fault behind some
pub each_breaks : (given : InPlaceEdits) (job : Job) (old mid : Option (List ℕ)) (files : List ChosenFile) (i : ℕ)
    (file : ChosenFile) (tally : EditTally) → i < length files → file ≡ get_or files i file
    → EditsEach given job old (take i files) mid tally → BreaksOff given job files old
each_breaks given job old mid files i file tally within is edited = record {
  front = take i files;
  file = file;
  behind = drop (i + 1) files;
  whole = sym (take-append-drop i files) ∙ ap (λ behind. take i files ++ behind)
      (drop_more files i file within ∙ ap (λ it. it ∷ drop (i + 1) files) (sym is));
  mid = mid;
  tally = tally;
  edited = edited;
}
