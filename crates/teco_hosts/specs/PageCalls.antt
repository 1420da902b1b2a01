-- What the calls on pages do, by their answers.
use Rattle.std.specs.Prelude.{ℕ, ◌≡◌, ◌<◌, ⊤, List, ◌++◌, length, Some, Result, Ok, Err}
use Rattle.teco_base.specs.declared.TheConstants.{LIMIT}
use Rattle.teco_model.specs.Pages.{first_page}
use Rattle.teco_hosts.specs.HostFiles.{HostFiles, Telling, Becomes, after_writing}
use Rattle.teco_hosts.specs.Held.{Held, unread_bytes}
use Rattle.teco_hosts.specs.declared.fault.Fault.{Fault}
use Rattle.teco_hosts.specs.declared.fault.Fault.TheVariants.{NoFile, In, Out, Full, Memory}

-- How a call may answer. A fault of the host comes only where its count of failures rose in the call, from f to g,
-- and in no other case does it rise. Of a call that opens an input:
abbrev pub OkOrNoFile : {X : Type 0} → Result X Fault → ℕ → ℕ → Type 0
OkOrNoFile (Ok _) f g = g ≡ f
OkOrNoFile (Err NoFile) f g = f < g
OkOrNoFile (Err In) f g = ⊥
OkOrNoFile (Err Out) f g = ⊥
OkOrNoFile (Err Full) f g = ⊥
OkOrNoFile (Err Memory) f g = g ≡ f

-- of a call that opens an output
abbrev pub OkOrCannotOpen : {X : Type 0} → Result X Fault → ℕ → ℕ → Type 0
OkOrCannotOpen (Ok _) f g = g ≡ f
OkOrCannotOpen (Err NoFile) f g = ⊥
OkOrCannotOpen (Err In) f g = ⊥
OkOrCannotOpen (Err Out) f g = f < g
OkOrCannotOpen (Err Full) f g = ⊥
OkOrCannotOpen (Err Memory) f g = g ≡ f

-- of a call that writes, closes or drops an output
abbrev pub OkOrOut : {X : Type 0} → Result X Fault → ℕ → ℕ → Type 0
OkOrOut (Ok _) f g = g ≡ f
OkOrOut (Err NoFile) f g = ⊥
OkOrOut (Err In) f g = ⊥
OkOrOut (Err Out) f g = f < g
OkOrOut (Err Full) f g = ⊥
OkOrOut (Err Memory) f g = ⊥

-- of a call that reads a page
abbrev pub OkOrCannotRead : {X : Type 0} → Result X Fault → ℕ → ℕ → Type 0
OkOrCannotRead (Ok _) f g = g ≡ f
OkOrCannotRead (Err NoFile) f g = ⊥
OkOrCannotRead (Err In) f g = f < g
OkOrCannotRead (Err Out) f g = ⊥
OkOrCannotRead (Err Full) f g = g ≡ f
OkOrCannotRead (Err Memory) f g = g ≡ f

-- of a call that reads and writes in turn
abbrev pub OkOrInOut : {X : Type 0} → Result X Fault → ℕ → ℕ → Type 0
OkOrInOut (Ok _) f g = g ≡ f
OkOrInOut (Err NoFile) f g = ⊥
OkOrInOut (Err In) f g = f < g
OkOrInOut (Err Out) f g = f < g
OkOrInOut (Err Full) f g = ⊥
OkOrInOut (Err Memory) f g = ⊥

-- files stay, but for what is unread of the input
abbrev pub OnlyReads : HostFiles → HostFiles → Type 0
OnlyReads files left = left ≡ record files { unread = left.unread }

-- the page that was made ready, or why it was not
abbrev pub IsFirstPage : Result (Unit {0}) Fault → Held → List ℕ → Type 0
IsFirstPage (Ok _) new unread = new.ready ≡ Some (first_page unread)
IsFirstPage (Err Full) new unread = LIMIT < length (first_page unread).text
IsFirstPage (Err NoFile) new unread = ⊤
IsFirstPage (Err In) new unread = ⊤
IsFirstPage (Err Out) new unread = ⊤
IsFirstPage (Err Memory) new unread = ⊤

-- The page that is ready is the first one of what is unread, in whatever pieces it was read. Nothing is lost.
pub record MakesReady (result : Result (Unit {0}) Fault) (old new : Held) (files left : HostFiles) :
    Type 0 where
  pub page : IsFirstPage result new (unread_bytes old files)
  pub unread : unread_bytes new left ≡ unread_bytes old files
  pub only : OnlyReads files left

-- some of the bytes from their front were written
pub record WritesFront (bytes : List ℕ) (old new : Telling) : Type 0 where
  pub front : List ℕ
  pub left : List ℕ
  pub whole : bytes ≡ front ++ left
  pub written : Becomes (after_writing front) old new

-- all of the bytes were written, or with a fault some from their front
abbrev pub WritesBytes : List ℕ → Result (Unit {0}) Fault → Telling → Telling → Type 0
WritesBytes bytes (Ok _) = Becomes (after_writing bytes)
WritesBytes bytes (Err _) = WritesFront bytes

-- of what was unread some is written, from its front, and what is unread now stood at its end
pub record CopiesFront (unread rest : List ℕ) (files left : HostFiles) : Type 0 where
  pub front : List ℕ
  pub unwritten : List ℕ
  pub read : List ℕ
  pub whole : unread ≡ front ++ unwritten
  pub suffix : unread ≡ read ++ rest
  pub written : left ≡ record (after_writing front files) { unread = left.unread }

-- all that was unread is written, or with a fault some from its front
abbrev pub Copies : Result (Unit {0}) Fault → List ℕ → List ℕ → HostFiles → HostFiles → Type 0
Copies (Ok _) unread rest files left = left ≡ record (after_writing unread files) { unread = left.unread }
Copies (Err _) unread rest files left = CopiesFront unread rest files left

-- of one who holds the input
abbrev pub CopiesRest : Result (Unit {0}) Fault → Held → Held → HostFiles → HostFiles → Type 0
CopiesRest result old new files left =
    Copies result (unread_bytes old files) (unread_bytes new left) files left
