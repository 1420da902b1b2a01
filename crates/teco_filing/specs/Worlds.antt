-- The state that stays with an editor and its host together, and calls of the host on it.
use Rattle.std.specs.Prelude.{ℕ, ◌≡◌, ◌<◌, List, [], length, Bool, true, false, Result, Ok, Err}
use Rattle.teco_base.specs.declared.TheConstants.{LIMIT}
use Rattle.teco_base.specs.declared.code.Code.TheVariants as code
use Rattle.teco_model.specs.Pages.{first_page}
use Rattle.teco_model.specs.Paging.{unread}
use Rattle.teco_model.specs.State.{Kept, World}
use Rattle.teco_model.specs.Typing.{typing_of}
use Rattle.teco_model.specs.declared.stop.HostFault.TheVariants as host_fault
use Rattle.teco_hosts.specs.Held.{Held, files_of, IsSameOutput}
use Rattle.teco_hosts.specs.HostFiles.{HostFiles, Telling, Told, Becomes, after_writing}
use Rattle.teco_hosts.specs.PageCalls.{WritesFront}
use Rattle.teco_filing.specs.declared.halt.Halt.{Halt}
use Rattle.teco_filing.specs.declared.halt.Halt.TheVariants.{Code, Memory, Host}

-- what stays, where an editor keeps this, holds that of its open files, and its host has these
abbrev pub world : Kept → Held → HostFiles → World
world kept held files = record { kept = kept; files = files_of held files }

-- R is so of what stayed and of what stays, where the host had the output open that the editor had open; and so it
-- has again.
abbrev pub Together : (World → World → Type 0) → Kept → Held → Kept → Held → Telling → Telling → Type 0
Together R kept held kept' held' = Told (λ files left.
    IsSameOutput held files → R (world kept held files) (world kept' held' left) × IsSameOutput held' left)

-- Bytes went out; or the host failed, and some from their front did.
abbrev pub PutsOut : List ℕ → Result (Unit {0}) Halt → Telling → Telling → ℕ → ℕ → Type 0
PutsOut bytes (Ok done) old new f g = Becomes (after_writing bytes) old new × (g ≡ f)
PutsOut bytes (Err (Code c)) old new f g = ⊥
PutsOut bytes (Err Memory) old new f g = ⊥
PutsOut bytes (Err (Host host_fault.NoFile)) old new f g = ⊥
PutsOut bytes (Err (Host host_fault.In)) old new f g = ⊥
PutsOut bytes (Err (Host host_fault.Out)) old new f g = WritesFront bytes old new × (f < g)

-- is there a byte?
abbrev pub is_some_byte : List ℕ → Bool
is_some_byte [] = false
is_some_byte bytes = true

-- The next page of the input, if there is one, is ready, and all is as it was.
abbrev pub TellsUnread : World → World → Result Bool Halt → Type 0
TellsUnread old new (Ok some) = (some ≡ is_some_byte (unread old.files)) × (new ≡ old)
TellsUnread old new (Err (Code c)) =
    (c ≡ code.Ful) × (LIMIT < length (first_page (unread old.files)).text) × (new ≡ old)
TellsUnread old new (Err Memory) = new ≡ old
TellsUnread old new (Err (Host host_fault.NoFile)) = ⊥
TellsUnread old new (Err (Host host_fault.In)) = new ≡ old
TellsUnread old new (Err (Host host_fault.Out)) = ⊥

-- these bytes are typed
abbrev pub with_typed : List ℕ → World → World
with_typed message world = record world { kept = (typing_of message world.kept).kept }
