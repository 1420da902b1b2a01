-- What comes of a session, beside the definition.
use Rattle.std.specs.Prelude.{ℕ, ◌≡◌, ◌⊎◌, ◌≤◌, List, [], ◌++◌, length, Option, Bool, true, false, Result, Ok, Err}
use Rattle.std.specs.Prelude.{IfSome}
use Rattle.std.specs.Io.KnownBytes.{Consumes, Appends, prepend_known}
use Rattle.teco_model.specs.Session.{Executes, Session, SessionToEnd, SessionToExit, IsCommandString}
use Rattle.teco_model.specs.State.{World}
use Rattle.teco_model.specs.declared.session.Limits.{Limits}
use Rattle.teco_session.specs.Output.{WritesPart}
use Rattle.teco_session.specs.Strings.{IsRest, IsUnended}
use Rattle.teco_session.specs.declared.ahead.TheConstants.{CHUNK}
use Rattle.teco_session.specs.declared.fault.SessionFault.{SessionFault}
use Rattle.teco_session.specs.declared.fault.SessionFault.TheVariants.{Read, Write, Memory, Argument}
use Rattle.teco_session.specs.declared.sessions.Done.{Done}
use Rattle.teco_session.specs.declared.sessions.TheConstants.{STRINGS}

-- what a session works on: what stays of machine and host together, how many calls of the host have failed, and the
-- bytes that the reader has left and that the writer holds, where their types tell them
pub record Setting : Type 0 where
  pub world : World
  pub failures : ℕ
  pub unread : Option (List ℕ)
  pub written : Option (List ℕ)

abbrev pub setting : World → ℕ → Option (List ℕ) → Option (List ℕ) → Setting
setting world failures unread written =
    record { world = world; failures = failures; unread = unread; written = written }

-- A number of command strings came, were executed, and what they write was written; none of them ends the session.
pub record Serves (limits : Limits) (count : ℕ) (old new : Setting) (coded : Bool) : Type 0 where
  pub strings : List ℕ
  pub lines : List ℕ
  pub came : Consumes old.unread new.unread strings
  pub executed : Executes limits old.world old.failures count strings new.world new.failures lines coded
  pub appended : Appends old.written new.written lines

-- The session of the input was written. The input is the reader's, where that tells it.
pub record FinishesAtEnd (limits : Limits) (old new : Setting) (coded : Bool) : Type 0 where
  pub input : List ℕ
  pub lines : List ℕ
  pub told : IfSome old.unread (λ bytes. bytes ≡ input)
  pub session : SessionToEnd limits old.world old.failures input new.world new.failures lines coded
  pub appended : Appends old.written new.written lines

-- The session of the command strings up to the one that ends it was written. Bytes of one read behind that were not
-- used, and nothing more was read.
pub record FinishesAtExit (limits : Limits) (old new : Setting) (coded : Bool) : Type 0 where
  pub input : List ℕ
  pub unused : List ℕ
  pub lines : List ℕ
  pub came : Consumes old.unread new.unread (input ++ unused)
  pub one_read : length unused ≤ CHUNK
  pub session : SessionToExit limits old.world old.failures input new.world new.failures lines coded
  pub last : session.behind ≡ []
  pub appended : Appends old.written new.written lines

abbrev pub Finishes : Limits → Setting → Setting → Bool → Bool → Type 0
Finishes limits old new coded false = FinishesAtEnd limits old new coded
Finishes limits old new coded true = FinishesAtExit limits old new coded

-- Some command strings were served, and then the fault came: nothing else was executed or written.
-- Behind them were read the front of a string, and bytes of one read, which were not used: none
-- where the input cannot be read, but where as many strings were served as a session takes.
pub record BreaksOff (limits : Limits) (old new : Setting) (fault : SessionFault) : Type 0 where
  pub count : ℕ
  pub coded : Bool
  pub left : Option (List ℕ)
  pub part : List ℕ
  pub unused : List ℕ
  pub served : Serves limits count old (record new { unread = left }) coded
  pub came : Consumes left new.unread (part ++ unused)
  pub unended : IsUnended limits part
  pub one_read : length unused ≤ CHUNK
  pub all_used : fault ≡ Read → (unused ≡ []) ⊎ (count ≡ STRINGS)

-- Some command strings were served, and then writing failed in the next, or in the rest: of what the
-- session of this piece writes there is a part, from the front and less than all. The world is as
-- that session leaves it, and bytes of one read were not used.
pub record CutsShort (limits : Limits) (old new : Setting) : Type 0 where
  pub count : ℕ
  pub coded : Bool
  pub last : Setting
  pub piece : List ℕ
  pub unused : List ℕ
  pub lines : List ℕ
  pub line : Bool
  pub exit : Bool
  pub served : Serves limits count old last coded
  pub came : Consumes last.unread new.unread (piece ++ unused)
  pub one_piece : IsCommandString limits piece ⊎ IsRest limits (prepend_known unused new.unread) piece
  pub one_read : length unused ≤ CHUNK
  pub session : Session limits last.world last.failures piece new.world new.failures lines line exit
  pub part : WritesPart last.written new.written lines

-- The host's count of failures rises only where a code line is written or a fault ends the session. For every host.
abbrev pub SessionCounts : Result Done SessionFault → ℕ → ℕ → Type 0
SessionCounts (Ok done) f g = (f ≤ g) × (done.coded ≡ false → g ≡ f)
SessionCounts (Err fault) f g = f ≤ g

-- what comes of a session
abbrev pub Converses : Limits → Setting → Setting → Result Done SessionFault → Type 0
Converses limits old new (Ok done) = Finishes limits old new done.coded done.exit
Converses limits old new (Err Read) = BreaksOff limits old new Read
Converses limits old new (Err Memory) = BreaksOff limits old new Memory
Converses limits old new (Err Write) = CutsShort limits old new
Converses limits old new (Err Argument) = ⊥
