-- When an example of a macro holds.
use Rattle.std.specs.Prelude.{◌≡◌, ⊤, ℕ, List, All, Option, Some, None, Result, Ok, Err, Vec}
use Rattle.std.specs.declared.alloc.Global.{Global}
use Rattle.teco_examples.specs.declared.running.TextRun.{TextRun}
use Rattle.teco_jobs.specs.InMemory.{Makes}
use Rattle.teco_jobs.specs.declared.in_memory.Came.{Came}
use Rattle.teco_jobs.specs.declared.in_memory.Came.TheVariants.{Text}
use Rattle.teco_jobs.specs.declared.in_memory.TextCall.{TextCall}
use Rattle.teco_library.specs.Library.{LibraryFile}
use Rattle.teco_notes.specs.declared.example.Example.{Example}
use Rattle.teco_notes.specs.declared.finding.FoundNote.{FoundNote}
use Rattle.teco_notes.specs.declared.finding.Note.{Note}
use Rattle.teco_notes.specs.declared.finding.Note.TheVariants as note
use Rattle.teco_options.specs.declared.running.LetterCase.{LetterCase}
use Rattle.teco_policy.specs.Policies.{KeepEach}

-- the call that an example asks for
pub record IsCallOf (library : LibraryFile) (subject : TextRun) (example : Example) (call : TextCall) : Type 0 where
  pub library_is : call.library.now ≡ library
  pub entry : call.entry ≡ subject.entry
  pub argument : call.argument ≡ example.argument
  pub settings : call.start.settings.now ≡ example.settings.items
  pub case : call.start.case ≡ subject.case
  pub pages : call.pages ≡ subject.pages

-- what a macro makes of a text, in the manner of an example
abbrev pub MakesAsIn : LibraryFile → TextRun → Example → List ℕ → Came → Type 0
MakesAsIn library subject example text came =
    (call : TextCall) × IsCallOf library subject example call × Makes call text came

-- The macro makes the text that is wanted, and keeps the policies.
pub record Holds (library : LibraryFile) (entry : ℕ) (case : Option LetterCase) (example : Example) : Type 0 where
  pub subject : TextRun
  pub of_entry : subject.entry ≡ entry
  pub in_case : subject.case ≡ case
  pub made : Vec ℕ Global
  pub makes : MakesAsIn library subject example example.before.items (Text made)
  pub wanted : made.items ≡ example.after.items
  pub kept : KeepEach example.policies.items example.before.items made.items

-- a comment says an example that holds, or something else that can be read
abbrev pub NoteHolds : LibraryFile → Option LetterCase → ℕ → Note → Type 0
NoteHolds library case entry (note.Example (Some example)) = Holds library entry case example
NoteHolds library case entry (note.Example None) = ⊥
NoteHolds library case entry (note.Keeps (Ok policy)) = ⊤
NoteHolds library case entry (note.Keeps (Err refusal)) = ⊥
NoteHolds library case entry (note.Takes (Some parameter)) = ⊤
NoteHolds library case entry (note.Takes None) = ⊥

-- is a comment of a macro asked for?
abbrev pub IsAsked : Option ℕ → ℕ → Type 0
IsAsked None register = ⊤
IsAsked (Some entry) register = entry ≡ register

-- all that are asked for hold
abbrev pub AllHold : LibraryFile → Option LetterCase → Option ℕ → List FoundNote → Type 0
AllHold library case entry notes =
    All (λ found. IsAsked entry found.register → NoteHolds library case found.register found.note) notes
