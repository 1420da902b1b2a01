-- What it means that an edit cannot fail: it writes no code, but for want of memory or a fault of the host.
use Rattle.std.specs.Prelude.{◌≡◌, ◌≢◌, ◌≤◌, ◌⊎◌, ⊤, ℕ, List, [], length, true, false, Option, Some, None, Ok}
use Rattle.std.specs.Io.KnownBytes.{Appends}
use Rattle.teco_jobs.specs.Strict.{AreStrict, on_terms}
use Rattle.teco_jobs.specs.declared.watching.Terms.{Terms}
use Rattle.teco_apply.specs.Apply.{are_plain}
use Rattle.teco_apply.specs.ByPages.{EditsFile, IsAnswered, Order}
use Rattle.teco_apply.specs.Sure.{PromisedCall, IsReady, loaded}
use Rattle.teco_apply.specs.declared.by_pages.Edited.{Edited}
use Rattle.teco_options.specs.declared.editing.PageChoice.{PageChoice}
use Rattle.teco_base.specs.declared.TheConstants.{LIMIT}
use Rattle.teco_model.specs.Files.{file_named}
use Rattle.teco_model.specs.Session.{lines_of}
use Rattle.teco_model.specs.State.{World}
use Rattle.teco_model.specs.declared.stop.Stop.{Stop}
use Rattle.teco_model.specs.declared.stop.Stop.TheVariants as stop

-- a run is admitted only where the macro is ready
abbrev pub IsStrict : Order → Type 0
IsStrict order =
    (old : World) → IsAnswered order old true → IsReady order.call.promise (loaded order.call.promise.library old)

-- names that a command string can give, and not one name
pub record AreNames (source target : List ℕ) : Type 0 where
  pub plain : are_plain source target ≡ true
  pub given : (source ≢ []) × (target ≢ [])
  pub apart : target ≢ source

-- The source is there, and no longer than the buffer may be; the buffer is empty, and no output is open.
pub record CanBegin (source target : List ℕ) (world : World) : Type 0 where
  pub names : AreNames source target
  pub bytes : List ℕ
  pub there : file_named source world.files.named ≡ Some bytes
  pub fits : length bytes ≤ LIMIT
  pub empty : world.kept.text ≡ []
  pub free : world.files.output ≡ None

-- want of memory, or a fault of the host
abbrev pub IsBeyond : Stop → Type 0
IsBeyond stop.Memory = ⊤
IsBeyond (stop.HostFault fault) = ⊤
IsBeyond answer = ⊥

-- the code line that is written last is that of such a stop
pub record EndsBeyond (sunk : Option (List ℕ)) : Type 0 where
  pub stop : Stop
  pub beyond : IsBeyond stop
  pub after : World
  pub before : Option (List ℕ)
  pub written : Appends before sunk (lines_of stop after)

-- An edit comes to no code, but for such a stop.
abbrev pub CannotFail : Order → Type 0
CannotFail order =
    (pages : PageChoice) (source target : List ℕ) (old new : World) (f g : ℕ) (sink sunk : Option (List ℕ))
    (edited : Edited)
    → CanBegin source target old
    → EditsFile pages order source target old new f g sink sunk (Ok edited)
    → (edited.coded ≡ false) ⊎ EndsBeyond sunk

-- An edit on strict terms cannot fail.
abbrev pub StrictEditsCannotFail : Type 0
StrictEditsCannotFail =
    (terms : Terms) (call : PromisedCall) → AreStrict terms call → CannotFail (on_terms terms call)
