-- What becomes of files that are edited in place, by what their host notes.
use Rattle.std.specs.Prelude.{ℕ, ◌≡◌, List, [], ◌∷◌, ◌==◌, drop, map, Bool, true, false, Option, Some, None, Result}
use Rattle.std.specs.Prelude.{Ok, Err, ◌||◌, if◌then◌else◌}
use Rattle.teco_model.specs.Files.{file_named}
use Rattle.teco_hosts.specs.Events.{Event, Happened, opened_input, gave, ended, opened_output, wrote, closed, dropped}
use Rattle.teco_hosts.specs.Events.{measured}
use Rattle.teco_hosts.specs.HostFiles.{AreOfBytes, HostFiles, Telling, Tells, Notes}

-- the name of the new text of a file
abbrev pub new_text : List ℕ → List ℕ
new_text name = 0 ∷ name

-- a name that is one
abbrev pub is_new_text : List ℕ → Bool
is_new_text [] = false
is_new_text (byte ∷ name) = byte == 0

-- ---- calls
-- What the host beneath notes of a call: the new text is an output with the name of its file, and is dropped where it
-- does not replace that.
abbrev pub beneath : Bool → Event → Event
beneath replaces (opened_input name) = opened_input name
beneath replaces (gave bytes) = gave bytes
beneath replaces ended = ended
beneath replaces (opened_output name) = opened_output (drop 1 name)
beneath replaces (wrote bytes) = wrote bytes
beneath true closed = closed
beneath false closed = dropped
beneath replaces dropped = dropped
beneath replaces (measured most) = measured most

abbrev pub all_beneath : Bool → List Event → List Event
all_beneath replaces events = map (beneath replaces) events

-- of one that closes the output, by its answer
abbrev pub noted_end : {E : Type 0} → Bool → Result (Unit {0}) E → List Event
noted_end true (Ok done) = closed ∷ []
noted_end false (Ok done) = dropped ∷ []
noted_end replaces (Err failed) = dropped ∷ []

-- a host that began with no notes has those
abbrev pub IsNotedBeneath : Bool → List Event → Telling → Type 0
IsNotedBeneath replaces events files = files ≡ Notes (all_beneath replaces events)

-- Whether a file or a new text is opened by these calls, where one was before them, or none. They may not open a file
-- where one was, nor a new text as a file, nor an output that is none.
abbrev pub begun_by : Bool → List Event → Option Bool
begun_by begun [] = Some begun
begun_by begun (opened_input name ∷ events) = if begun || is_new_text name then None else begun_by true events
begun_by begun (gave bytes ∷ events) = begun_by begun events
begun_by begun (ended ∷ events) = begun_by begun events
begun_by begun (opened_output name ∷ events) = if is_new_text name then begun_by true events else None
begun_by begun (wrote bytes ∷ events) = begun_by begun events
begun_by begun (closed ∷ events) = begun_by begun events
begun_by begun (dropped ∷ events) = begun_by begun events
begun_by begun (measured most ∷ events) = begun_by begun events

-- one file is opened at most, before any new text
abbrev pub IsOneEdit : List Event → Bool → Type 0
IsOneEdit events begun = begun_by false events ≡ Some begun

-- what one notes whose calls are those of an edit, and what the host beneath notes
abbrev pub IsPassedOn : Bool → Telling → Telling → Type 0
IsPassedOn replaces (Tells files) under = ⊥
IsPassedOn replaces (Notes events) under =
    IsNotedBeneath replaces events under × ((begun : Bool) × IsOneEdit events begun)

-- ---- files
-- what a file is behind the edit, by its new text, if that was closed, and by what it was
abbrev pub text_behind : Bool → Option (List ℕ) → Option (List ℕ) → Option (List ℕ)
text_behind true (Some text) old = Some text
text_behind true None old = old
text_behind false text old = old

-- Where the calls leave some files by the definition, with new texts apart, each file has its new text, if there is
-- one, and else is as it was.
abbrev pub AreInPlace : Bool → HostFiles → HostFiles → HostFiles → Type 0
AreInPlace replaces files left apart =
    (name : List ℕ) → file_named name left.named
    ≡ text_behind replaces (file_named (new_text name) apart.named) (file_named name files.named)

-- no output is open, and no file has the name of a new text
pub record AreReady (files : HostFiles) : Type 0 where
  pub closed : files.output ≡ None
  pub free : (name : List ℕ) → file_named (new_text name) files.named ≡ None

-- such files of bytes fit these events
pub record AreFittedInPlace (events : List Event) : Type 0 where
  pub files : HostFiles
  pub left : HostFiles
  pub bytes : AreOfBytes files
  pub ready : AreReady files
  pub happened : Happened events files left

abbrev pub FilesAreReplaced : Type 0
FilesAreReplaced =
    (replaces : Bool) (events : List Event) (begun : Bool) (files left : HostFiles) → IsOneEdit events begun
    → AreReady files
    → Happened (all_beneath replaces events) files left
    → (apart : HostFiles) × Happened events files apart × AreInPlace replaces files left apart
