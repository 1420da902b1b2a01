-- Whether input is unread, as a machine tells it.
use Rattle.std.specs.Prelude.{ℕ, ◌≡◌, ◌<◌, length, Bool, Result, Ok, Err}
use Rattle.teco_base.specs.declared.TheConstants.{LIMIT}
use Rattle.teco_base.specs.declared.code.Code.TheVariants as code
use Rattle.teco_model.specs.Pages.{first_page}
use Rattle.teco_model.specs.Paging.{unread}
use Rattle.teco_model.specs.State.{World}
use Rattle.teco_model.specs.declared.stop.HostFault.TheVariants as host_fault
use Rattle.teco_model.specs.declared.stop.Stop.{Stop}
use Rattle.teco_model.specs.declared.stop.Stop.TheVariants as stop
use Rattle.teco_filing.specs.Worlds.{is_some_byte}
use Rattle.teco_filing.specs.declared.halt.Halt.{Halt}
use Rattle.teco_model.specs.Run.{StopCounts}
use Rattle.teco_run.specs.Stopped.{stop_of}

-- Whether input is unread is told, or the next page is too long, or memory was wanted, or the host failed; and all
-- is as it was.
abbrev pub TellsIfUnread : World → World → Result Bool Stop → Type 0
TellsIfUnread old new (Ok some) = (some ≡ is_some_byte (unread old.files)) × (new ≡ old)
TellsIfUnread old new (Err (stop.Error c)) =
    (c ≡ code.Ful) × (LIMIT < length (first_page (unread old.files)).text) × (new ≡ old)
TellsIfUnread old new (Err stop.Memory) = new ≡ old
TellsIfUnread old new (Err (stop.HostFault host_fault.In)) = new ≡ old
TellsIfUnread old new told = ⊥

-- The host's count of failures rises, from f to g, where the host failed, and in no other case.
abbrev pub UnreadCounts : Result Bool Stop → ℕ → ℕ → Type 0
UnreadCounts (Ok some) f g = g ≡ f
UnreadCounts (Err stopped) f g = StopCounts stopped f g

-- what a run answers, in the place of why it cannot be told
abbrev pub told_by : Result Bool Halt → Result Bool Stop
told_by (Ok some) = Ok some
told_by (Err halted) = Err (stop_of halted)
