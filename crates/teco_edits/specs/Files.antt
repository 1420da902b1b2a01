-- What the edits of files in place do, one after another, and what is printed of them.
use Rattle.std.specs.Prelude.{ℕ, ◌≡◌, ◌≢◌, ◌<◌, ◌+◌, ◌-◌, ◌^◌, ◌⊎◌, min, List, [], ◌∷◌, ◌++◌, length, Bool, true}
use Rattle.std.specs.Prelude.{◌↔◌, IsTrue, false, not, ◌&&◌, nat_lt, if◌then◌else◌, Option, Some, None, Result, Ok, Err}
use Rattle.std.specs.Io.KnownBytes.{Appends}
use Rattle.std.specs.List.{Contains}
use Rattle.teco_jobs.specs.Edits.{Prints, RewritesBy, call_of}
use Rattle.teco_jobs.specs.declared.jobs.Job.{Job}
use Rattle.teco_base.specs.declared.bytes.TheConstants.{ESC, LF}
use Rattle.teco_edit_parts.specs.Typed.{named_lines, without_code}
use Rattle.teco_edit_parts.specs.declared.choosing.ChosenFile.{ChosenFile}
use Rattle.teco_edits.specs.declared.editing.EditEnd.{EditEnd}
use Rattle.teco_edits.specs.declared.editing.InPlaceEdits.{InPlaceEdits}
use Rattle.teco_edits.specs.declared.editing.EditTally.{EditTally}
use Rattle.teco_edits.specs.declared.outcome.EditOutcome.{EditOutcome}
use Rattle.teco_edits.specs.declared.outcome.EditOutcome.TheVariants.{Done, WouldChange}
use Rattle.teco_edits.specs.Objects.{Remarks, file_object}
use Rattle.teco_edits.specs.Outcomes.{is_coded, is_success, of_runs, worse}
use Rattle.teco_options.specs.Names.{are_named}
use Rattle.teco_options.specs.declared.editing.Change.{Change}
use Rattle.teco_options.specs.declared.editing.Change.TheVariants.{Made, Listed, Checked}
use Rattle.teco_options.specs.declared.editing.Look.{Look}
use Rattle.teco_options.specs.declared.editing.TheConstants.{NAME}
use Rattle.teco_hosts.specs.HostFiles.{Telling}
use Rattle.teco_pages.specs.Policies.{IsMet}
use Rattle.teco_pages.specs.Texts.{Differ, EditTexts, noted_texts}
use Rattle.teco_tools.specs.declared.fault.ToolFault.{ToolFault}
use Rattle.teco_console.specs.declared.outcome.Outcome.TheVariants.{Coded}

-- ---- outcomes
abbrev pub is_done : EditEnd → Bool
is_done ended = is_success ended.outcome

-- the file is changed, or would be
abbrev pub is_change : EditEnd → Bool
is_change ended = is_done ended && ended.differs

-- ---- counts
-- one more, if it counts, up to the greatest number
abbrev pub counted : ℕ → Bool → ℕ
counted count true = min (count + 1) (2 ^ 64 - 1)
counted count false = count

abbrev pub no_tally : EditTally
no_tally = record { files = 0; changed = 0; failed = 0; outcome = Done }

-- One file more was edited: those that would change and those whose edit failed are counted.
abbrev pub tally_with : EditEnd → EditTally → EditTally
tally_with ended tally = record {
  files = counted tally.files true;
  changed = counted tally.changed (is_change ended);
  failed = counted tally.failed (not (is_done ended));
  outcome = worse tally.outcome (of_runs ended.outcome);
}

-- Files that would change have a status where it is only checked whether there are any.
abbrev pub outcome_of : Change → EditTally → EditOutcome
outcome_of Made tally = tally.outcome
outcome_of Listed tally = tally.outcome
outcome_of Checked tally = if nat_lt 0 tally.changed then worse tally.outcome WouldChange else tally.outcome

-- ---- names
-- a name that a file can be edited by
pub record IsFileName (name : List ℕ) : Type 0 where
  pub short : length name < NAME
  pub some : name ≢ []
  pub plain : ¬ Contains name ESC

-- a file may be left as it is: those with a NUL are not taken
abbrev pub MayBeLeft : InPlaceEdits → Type 0
MayBeLeft given = given.takes_binary ≡ false

-- ---- what is printed of a file
-- what was typed over it, with its name before each line where names stand there
abbrev pub shown_typed : InPlaceEdits → List ℕ → List ℕ → List ℕ
shown_typed given name typed =
    if are_named given.naming (length given.files.now) then named_lines false name typed else typed

-- its name in a line, unless it is replaced
abbrev pub line_end : Bool → ℕ
line_end true = 0
line_end false = LF

abbrev pub listed_by : Change → Bool → List ℕ → List ℕ
listed_by Made by_nul name = []
listed_by Listed by_nul name = name ++ line_end by_nul ∷ []
listed_by Checked by_nul name = name ++ line_end by_nul ∷ []

-- Objects say it themselves.
abbrev pub unless : Bool → List ℕ → List ℕ
unless true text = []
unless false text = text

abbrev pub listed : InPlaceEdits → List ℕ → List ℕ
listed given name = unless given.prints_objects (listed_by given.change given.ends_by_nul name)

-- That line; or what differs, where that is asked for: its text is not promised.
abbrev pub ShowsBy : Option Look → List ℕ → Option (List ℕ) → Option (List ℕ) → Type 0
ShowsBy None line old new = Appends old new line
ShowsBy (Some look) line old new = Prints old new

abbrev pub ShowsChange : InPlaceEdits → List ℕ → Option (List ℕ) → Option (List ℕ) → Type 0
ShowsChange given name old new = ShowsBy given.diff (listed given name) old new

-- of a file that would change alone
abbrev pub ShowsIf : Bool → InPlaceEdits → List ℕ → Option (List ℕ) → Option (List ℕ) → Type 0
ShowsIf true given name old new = ShowsChange given name old new
ShowsIf false given name old new = new ≡ old

abbrev pub ShowsEnded : InPlaceEdits → List ℕ → EditEnd → Option (List ℕ) → Option (List ℕ) → Type 0
ShowsEnded given name ended old new = ShowsIf (is_change ended) given name old new

-- ---- the edit of a file
abbrev pub is_made : Change → Bool
is_made Made = true
is_made Listed = false
is_made Checked = false

-- whether the texts differ is told
abbrev pub TellsDifference : EditTexts → EditEnd → Type 0
TellsDifference texts ended = IsTrue ended.differs ↔ Differ texts

-- A host that had made no call and noted these edits the file, as its crate promises it. Its output takes the file's
-- name only where that is asked for, and only where each policy is kept of the text that was read and the one that was
-- written; whether these differ is told. What was typed over the file is written, without the line of a code.
pub record EditsNamed (given : InPlaceEdits) (job : Job) (name : List ℕ) (replaces : Bool) (old new : Option (List ℕ))
    (ended : EditEnd) : Type 0 where
  pub noted : Telling
  pub failures : ℕ
  pub typed : List ℕ
  pub edit :
      RewritesBy job.task.now (call_of job) name replaces noted failures (Some []) (Some typed) (Ok ended.outcome)
  pub met : IsMet given.policies.now replaces noted
  pub differs : TellsDifference (noted_texts noted) ended
  pub written : Appends old new (shown_typed given name (without_code typed (is_coded ended.outcome)))

-- and behind that what differs, or its name
pub record EditsPlainly (given : InPlaceEdits) (job : Job) (name : List ℕ) (old new : Option (List ℕ)) (ended : EditEnd)
    : Type 0 where
  pub mid : Option (List ℕ)
  pub edit : EditsNamed given job name (is_made given.change) old mid ended
  pub shown : ShowsEnded given name ended mid new

-- Or an object says of the file what came of it, and what was typed over it.
pub record EditsAsObject (given : InPlaceEdits) (job : Job) (name : List ℕ) (old new : Option (List ℕ))
    (ended : EditEnd) : Type 0 where
  pub typed : List ℕ
  pub edit : EditsNamed given job name (is_made given.change) (Some []) (Some typed) ended
  pub remarks : Remarks
  pub printed : Appends old new (file_object name (is_change ended) (of_runs ended.outcome) typed remarks)

abbrev pub EditsFileBy : Bool → InPlaceEdits → Job → List ℕ → Option (List ℕ) → Option (List ℕ) → EditEnd → Type 0
EditsFileBy true given job name old new ended = EditsAsObject given job name old new ended
EditsFileBy false given job name old new ended = EditsPlainly given job name old new ended

abbrev pub EditsFile : InPlaceEdits → Job → List ℕ → Option (List ℕ) → Option (List ℕ) → EditEnd → Type 0
EditsFile given job name old new ended = EditsFileBy given.prints_objects given job name old new ended

-- A file that can't be edited by its name fails, and at most an object says so.
abbrev pub failed_end : EditEnd
failed_end = record { outcome = Coded; differs = false }

abbrev pub TellsNoName : Bool → List ℕ → Option (List ℕ) → Option (List ℕ) → Type 0
TellsNoName true name old new =
    (remarks : Remarks) × Appends old new (file_object name false (of_runs Coded) [] remarks)
TellsNoName false name old new = new ≡ old

pub record CannotBeNamed (given : InPlaceEdits) (name : List ℕ) (old new : Option (List ℕ)) (ended : EditEnd)
    : Type 0 where
  pub no_name : ¬ IsFileName name
  pub failed : ended ≡ failed_end
  pub told : TellsNoName given.prints_objects name old new

-- Either is so of a file that is edited.
abbrev pub EditsOne : InPlaceEdits → Job → List ℕ → Option (List ℕ) → Option (List ℕ) → EditEnd → Type 0
EditsOne given job name old new ended =
    CannotBeNamed given name old new ended ⊎ (IsFileName name × EditsFile given job name old new ended)

-- ---- one after another
-- a file is left as it is
pub record LeavesFile (given : InPlaceEdits) (old new : Option (List ℕ)) (before after : EditTally) : Type 0 where
  pub may_be : MayBeLeft given
  pub stays : new ≡ old
  pub uncounted : after ≡ before

-- it is edited, and counted
pub record CountsFile (given : InPlaceEdits) (job : Job) (file : ChosenFile) (old new : Option (List ℕ))
    (before after : EditTally) : Type 0 where
  pub ended : EditEnd
  pub edit : EditsOne given job file.name.items old new ended
  pub counted : after ≡ tally_with ended before

abbrev pub EditsNext : InPlaceEdits → Job → ChosenFile → Option (List ℕ) → Option (List ℕ) → EditTally → EditTally
    → Type 0
EditsNext given job file old new before after =
    LeavesFile given old new before after ⊎ CountsFile given job file old new before after

-- Each file in turn was left or edited, and what was printed of each stands behind what was printed before.
pub data EditsEach (given : InPlaceEdits) (job : Job) (old : Option (List ℕ)) : List ChosenFile → Option (List ℕ)
    → EditTally → Type 0 where
  none : EditsEach given job old [] old no_tally
  one_more :
      (files : List ChosenFile) (mid : Option (List ℕ)) (tally : EditTally) (file : ChosenFile) (new : Option (List ℕ))
      (after : EditTally) →
      EditsEach given job old files mid tally → EditsNext given job file mid new tally after →
      EditsEach given job old (files ++ file ∷ []) new after

-- Some were, and a fault came behind them.
pub record BreaksOff (given : InPlaceEdits) (job : Job) (files : List ChosenFile) (old : Option (List ℕ)) : Type 0 where
  pub front : List ChosenFile
  pub file : ChosenFile
  pub behind : List ChosenFile
  pub whole : files ≡ front ++ file ∷ behind
  pub mid : Option (List ℕ)
  pub tally : EditTally
  pub edited : EditsEach given job old front mid tally

-- all files
abbrev pub EditsAll : InPlaceEdits → Job → List ChosenFile → Option (List ℕ) → Option (List ℕ)
    → Result EditTally ToolFault → Type 0
EditsAll given job files old new (Ok tally) = EditsEach given job old files new tally
EditsAll given job files old new (Err fault) = BreaksOff given job files old

-- and what is answered of them
pub record AnswersAll (given : InPlaceEdits) (job : Job) (old new : Option (List ℕ)) (outcome : EditOutcome)
    : Type 0 where
  pub tally : EditTally
  pub edited : EditsEach given job old given.files.now new tally
  pub answered : outcome ≡ outcome_of given.change tally

abbrev pub EditsFiles : InPlaceEdits → Job → Option (List ℕ) → Option (List ℕ) → Result EditOutcome ToolFault → Type 0
EditsFiles given job old new (Ok outcome) = AnswersAll given job old new outcome
EditsFiles given job old new (Err fault) = BreaksOff given job given.files.now old
