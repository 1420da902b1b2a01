-- What comes of a session that the first code ends, beside the definition.
use Rattle.std.specs.Prelude.{ℕ, ◌≡◌, ◌⊎◌, ◌≤◌, List, ◌++◌, length, Bool, true, false, Result, Ok, Err}
use Rattle.std.specs.Io.KnownBytes.{Consumes, Appends, prepend_known}
use Rattle.teco_model.specs.Session.{SessionToEnd, IsCommandString}
use Rattle.teco_model.specs.declared.session.Limits.{Limits}
use Rattle.teco_session.specs.Sessions.{BreaksOff, Converses, CutsShort, Finishes, Serves, Setting}
use Rattle.teco_session.specs.Strings.{IsRest}
use Rattle.teco_session.specs.declared.ahead.TheConstants.{CHUNK}
use Rattle.teco_session.specs.declared.fault.SessionFault.{SessionFault}
use Rattle.teco_session.specs.declared.fault.SessionFault.TheVariants.{Read, Write, Memory, Argument}
use Rattle.teco_session.specs.declared.sessions.Done.{Done}

-- Command strings were served, and none was a code. The next was, or what follows the last: the session of this
-- piece was written, and nothing behind it was executed or written. Bytes of one read were not used.
pub record EndsAtCode (limits : Limits) (old new : Setting) : Type 0 where
  pub count : ℕ
  pub last : Setting
  pub piece : List ℕ
  pub unused : List ℕ
  pub lines : List ℕ
  pub served : Serves limits count old last false
  pub came : Consumes last.unread new.unread (piece ++ unused)
  pub one_piece : IsCommandString limits piece ⊎ IsRest limits (prepend_known unused new.unread) piece
  pub one_read : length unused ≤ CHUNK
  pub session : SessionToEnd limits last.world last.failures piece new.world new.failures lines true
  pub appended : Appends last.written new.written lines

-- without a code it is the session of the whole input; a code never comes with the end of the session that a string
-- asks for
abbrev pub FinishesAtCode : Limits → Setting → Setting → Bool → Bool → Type 0
FinishesAtCode limits old new false exit = Finishes limits old new false exit
FinishesAtCode limits old new true false = EndsAtCode limits old new
FinishesAtCode limits old new true true = ⊥

-- the session broke off, and no code came before
pub record BreaksOffPlain (limits : Limits) (old new : Setting) (fault : SessionFault) : Type 0 where
  pub breaks : BreaksOff limits old new fault
  pub plain : breaks.coded ≡ false

-- its output was cut short, and no code came before
pub record CutsShortPlain (limits : Limits) (old new : Setting) : Type 0 where
  pub cuts : CutsShort limits old new
  pub plain : cuts.coded ≡ false

-- what comes of a session that the first code ends
abbrev pub ConversesToCode : Limits → Setting → Setting → Result Done SessionFault → Type 0
ConversesToCode limits old new (Ok done) = FinishesAtCode limits old new done.coded done.exit
ConversesToCode limits old new (Err Read) = BreaksOffPlain limits old new Read
ConversesToCode limits old new (Err Memory) = BreaksOffPlain limits old new Memory
ConversesToCode limits old new (Err Write) = CutsShortPlain limits old new
ConversesToCode limits old new (Err Argument) = ⊥

-- what comes of a session that the first code ends, or does not
abbrev pub Hears : Bool → Limits → Setting → Setting → Result Done SessionFault → Type 0
Hears true limits old new result = ConversesToCode limits old new result
Hears false limits old new result = Converses limits old new result
