-- What becomes of the text of a file that is edited on strict terms: it is changed by no more than the macro's elements
-- can do.
use Rattle.std.specs.Prelude.{◌≡◌, ℕ, List, false, Option, Some, Ok}
use Rattle.teco_apply.specs.ByPages.{EditsFile, Order}
use Rattle.teco_apply.specs.Sure.{PromisedCall}
use Rattle.teco_apply.specs.declared.by_pages.Edited.{Edited}
use Rattle.teco_jobs.specs.Strict.{AreStrict, on_terms}
use Rattle.teco_jobs.specs.declared.watching.Terms.{Terms}
use Rattle.teco_law_edits.specs.Strict.{CanBegin}
use Rattle.teco_model.specs.Files.{Files, file_named}
use Rattle.teco_model.specs.State.{World}
use Rattle.teco_options.specs.declared.editing.PageChoice.{PageChoice}
use Rattle.teco_law_changes.specs.Runs.{IsGot}
use Rattle.teco_promise.specs.Promise.{Promise}

-- the file of this name has such a text
pub record IsMade (promise : Promise) (bytes target : List ℕ) (files : Files) : Type 0 where
  pub made : List ℕ
  pub there : file_named target files.named ≡ Some made
  pub got : IsGot promise.library promise.entry bytes made

-- An edit that comes to no code, and whose macro is not refused, makes the target's text so from the source's.
abbrev pub MakesChanged : Order → Type 0
MakesChanged order =
    (pages : PageChoice) (source target : List ℕ) (old new : World) (f g : ℕ) (sink sunk : Option (List ℕ))
    (edited : Edited) (can : CanBegin source target old)
    → EditsFile pages order source target old new f g sink sunk (Ok edited)
    → edited.coded ≡ false → edited.refused ≡ false → IsMade order.call.promise can.bytes target new.files

abbrev pub StrictEditsMakeChanged : Type 0
StrictEditsMakeChanged =
    (terms : Terms) (call : PromisedCall) → AreStrict terms call → MakesChanged (on_terms terms call)
