-- What runs of scripts did, one after another on one machine.
use Rattle.std.specs.Prelude.{ℕ, ◌≡◌, ◌⊎◌, List, [], ◌∷◌, ◌++◌, drop, Bool, true, false, ◌||◌, ◌&&◌, Option, Some}
use Rattle.std.specs.Prelude.{None, Result, Ok, Err, IsErr, IfSome, ⊤}
use Rattle.teco_model.specs.declared.session.Limits.{Limits}
use Rattle.teco_session.specs.FirstCode.{Hears}
use Rattle.teco_model.specs.State.{World, kept_of_store}
use Rattle.teco_hosts.specs.HostFiles.{Telling}
use Rattle.teco_run.specs.Holdings.{Holdings, Joined}
use Rattle.teco_hosts.specs.Held.{nothing_held}
use Rattle.teco_session.specs.Sessions.{Setting, setting}
use Rattle.teco_tools.specs.Starts.{IsBare, Prepares}
use Rattle.teco_session.specs.declared.fault.SessionFault.{SessionFault}
use Rattle.teco_session.specs.declared.sessions.Done.{Done}
use Rattle.teco_source.specs.Scripts.{text_begin}
use Rattle.teco_source.specs.Source.{said}
use Rattle.teco_source.specs.declared.form.EscapeForm.{EscapeForm}
use Rattle.teco_session.specs.declared.sessions.Conduct.{Conduct}
use Rattle.teco_base.specs.declared.TheConstants.{LIMIT}
use Rattle.teco_tools.specs.declared.fault.ToolFault.{ToolFault}
use Rattle.teco_tools.specs.declared.running.Run.{Run}
use Rattle.teco_options.specs.declared.running.Script.{Script}
use Rattle.teco_options.specs.declared.running.Script.TheVariants.{Stream, File, Word}
use Rattle.teco_console.specs.Sources.{IsFileForm}
use Rattle.teco_console.specs.declared.forms.Escape.{Escape}
use Rattle.teco_console.specs.declared.outcome.Outcome.{Outcome}
use Rattle.teco_console.specs.declared.outcome.Outcome.TheVariants as outcomes

-- what a file says as a script, where what it has is told
pub record FileSays (holds : List ℕ → Option (List ℕ)) (escape : Escape) (name text : List ℕ) : Type 0 where
  pub bytes : List ℕ
  pub form : EscapeForm
  pub told : IfSome (holds name) (λ known. bytes ≡ known)
  pub by_name : IsFileForm escape name form
  pub says : text ≡ said form (drop (text_begin bytes) bytes)

-- What a script is read from: the stream, which is none, or a text. How the text of a word ends is not said.
abbrev pub IsInput : (List ℕ → Option (List ℕ)) → Escape → Script → Option (List ℕ) → Type 0
IsInput holds escape Stream input = input ≡ None
IsInput holds escape (File name) input = (text : List ℕ) × (input ≡ Some text) × FileSays holds escape name.now text
IsInput holds escape (Word word) input = (text : List ℕ) × (input ≡ Some text)

-- the session of a text, which leaves the stream as it is
pub record HearsText (until : Bool) (limits : Limits) (text : List ℕ) (old new : Setting)
    (result : Result Done SessionFault) : Type 0 where
  pub left : Option (List ℕ)
  pub hears : Hears until limits (record old { unread = Some text }) (record new { unread = left }) result
  pub stream : new.unread ≡ old.unread

-- the session of a script
abbrev pub HearsScript : Bool → Limits → Option (List ℕ) → Setting → Setting → Result Done SessionFault → Type 0
HearsScript until limits None old new result = Hears until limits old new result
HearsScript until limits (Some text) old new result = HearsText until limits text old new result

-- what files have, how they write ESC, whether the first code ends a run, and the limits of its command strings
pub record Terms : Type 0 where
  pub holds : List ℕ → Option (List ℕ)
  pub escape : Escape
  pub until : Bool
  pub limits : Limits

-- a session ends the run
abbrev pub is_last : Bool → Done → Bool
is_last until done = done.exit || (done.coded && until)

-- Scripts were played in turn, and none ended the run; whether a code came.
pub data Plays (terms : Terms) (old : Setting) : List Script → Setting → Bool → Type 0 where
  none : Plays terms old [] old false
  one_more :
      (scripts : List Script) (mid : Setting) (coded : Bool) →
      (script : Script) (input : Option (List ℕ)) (new : Setting) (done : Done) →
      Plays terms old scripts mid coded → IsInput terms.holds terms.escape script input
      → HearsScript terms.until terms.limits input mid new (Ok done) → is_last terms.until done ≡ false →
      Plays terms old (scripts ++ script ∷ []) new (coded || done.coded)

-- all were played
pub record PlaysAll (terms : Terms) (scripts : List Script) (old new : Setting) (done : Done) : Type 0 where
  pub played : Plays terms old scripts new done.coded
  pub on : done.exit ≡ false

-- some were played, and then comes a script
pub record Comes (terms : Terms) (scripts : List Script) (old mid : Setting) (coded : Bool) : Type 0 where
  pub front : List Script
  pub script : Script
  pub behind : List Script
  pub whole : scripts ≡ front ++ script ∷ behind
  pub played : Plays terms old front mid coded

-- the script that came ended the run, or its session broke off
pub record EndsIn (terms : Terms) (scripts : List Script) (old new : Setting) (result : Result Done SessionFault)
    (coded : Bool) : Type 0 where
  pub mid : Setting
  pub comes : Comes terms scripts old mid coded
  pub input : Option (List ℕ)
  pub is : IsInput terms.holds terms.escape comes.script input
  pub heard : HearsScript terms.until terms.limits input mid new result

pub record EndsEarly (terms : Terms) (scripts : List Script) (old new : Setting) (done : Done) : Type 0 where
  pub last : Done
  pub coded : Bool
  pub ends : EndsIn terms scripts old new (Ok last) coded
  pub is_so : is_last terms.until last ≡ true
  pub code : done.coded ≡ (coded || last.coded)
  pub exit : done.exit ≡ last.exit

-- its session broke off, or it could not be read and nothing more was done
pub record BreaksOff (terms : Terms) (scripts : List Script) (old new : Setting) : Type 0 where
  pub coded : Bool
  pub here : Comes terms scripts old new coded
      ⊎ ((fault : SessionFault) × EndsIn terms scripts old new (Err fault) coded)

-- what comes of scripts
abbrev pub PlaysOut : Terms → List Script → Setting → Setting → Result Done ToolFault → Type 0
PlaysOut terms scripts old new (Ok done) =
    PlaysAll terms scripts old new done ⊎ EndsEarly terms scripts old new done
PlaysOut terms scripts old new (Err fault) = BreaksOff terms scripts old new

-- how a run conducts its sessions
abbrev pub conduct_of : Run → Conduct
conduct_of run = record {
  limits = record { steps = run.limit; length = LIMIT };
  until_code = run.until_code;
}

-- the terms of scripts that are played
abbrev pub terms_of : (List ℕ → Option (List ℕ)) → Escape → Conduct → Terms
terms_of holds escape conduct =
    record { holds = holds; escape = escape; until = conduct.until_code; limits = conduct.limits }

-- what a session works on, beside what stays with machine and host
pub record Around : Type 0 where
  pub failures : ℕ
  pub unread : Option (List ℕ)
  pub written : Option (List ℕ)

abbrev pub around : ℕ → Option (List ℕ) → Option (List ℕ) → Around
around failures unread written = record { failures = failures; unread = unread; written = written }

abbrev pub at : Around → World → Setting
at place world = setting world place.failures place.unread place.written

-- what is answered: `Done` only where no code came, and `Coded` where one did
pub record IsOutcome (done : Done) (outcome : Outcome) : Type 0 where
  pub plain : outcome ≡ outcomes.Done → done.coded ≡ false
  pub coded : done.coded ≡ true → outcome ≡ outcomes.Coded

abbrev pub IsAnswer : Result Done ToolFault → Result Outcome ToolFault → Type 0
IsAnswer (Ok done) (Ok outcome) = IsOutcome done outcome
IsAnswer (Ok done) (Err fault) = ⊥
IsAnswer (Err fault) (Ok outcome) = ⊥
IsAnswer (Err fault) (Err other) = ⊤

-- scripts were played from this machine to that one, and that is answered
pub record Concludes (terms : Terms) (scripts : List Script) (old new : Around) (begun left : Holdings)
    (before after : Telling) (result : Result Outcome ToolFault) : Type 0 where
  pub done : Result Done ToolFault
  pub plays :
      Joined (λ was is. PlaysOut terms scripts (at old was) (at new is) done) begun left before after
  pub answers : IsAnswer done result

-- from a machine and files that are prepared: a new one and the files as they are, where nothing is to be prepared
pub record Begins (terms : Terms) (run : Run) (fresh : Holdings) (old new : Around) (files after : Telling)
    (result : Result Outcome ToolFault) : Type 0 where
  pub begun : Holdings
  pub left : Holdings
  pub before : Telling
  pub failures : ℕ
  pub prepared : Joined (Prepares run.start) fresh begun files before
  pub same_machine : IsBare run.start → begun ≡ fresh
  pub same_files : IsBare run.start → before ≡ files
  pub same_failures : IsBare run.start → failures ≡ old.failures
  pub concludes :
      Concludes terms run.scripts.now (record old { failures = failures }) new begun left before after result

-- a new machine
abbrev pub new_machine : Holdings
new_machine = record { kept = kept_of_store [] 0; held = nothing_held }

-- or they could not be prepared, and nothing was read or written
abbrev pub RunsScripts : Terms → Run → Around → Around → Telling → Telling → Result Outcome ToolFault → Type 0
RunsScripts terms run old new files after result =
    (IsErr result × (new.unread ≡ old.unread) × (new.written ≡ old.written))
    ⊎ Begins terms run new_machine old new files after result
