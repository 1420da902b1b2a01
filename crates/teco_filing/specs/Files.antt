-- The bytes that went to the output, by the answer of a call.
use Rattle.std.specs.Prelude.{ℕ, ◌≡◌, List, ◌++◌, None, Result, Ok, Err}
use Rattle.teco_model.specs.Pages.{written_page}
use Rattle.teco_model.specs.Paging.{page_of_buffer, unread}
use Rattle.teco_model.specs.State.{Kept}
use Rattle.teco_hosts.specs.Held.{Held, files_of}
use Rattle.teco_hosts.specs.HostFiles.{HostFiles, after_writing, after_closing}
use Rattle.teco_hosts.specs.declared.fault.Fault.{Fault}

-- All that is unread was written; or with a fault nothing but the output and what is unread changed.
abbrev pub WritesUnread : Result (Unit {0}) Fault → Held → HostFiles → HostFiles → Type 0
WritesUnread (Ok done) held files left =
    left ≡ record (after_writing (unread (files_of held files)) files) { unread = left.unread }
WritesUnread (Err fault) held files left = left.named ≡ files.named

-- the bytes of the buffer as a page, and then of all that is unread
abbrev pub bytes_of_all : Kept → Held → HostFiles → List ℕ
bytes_of_all kept held files = written_page (page_of_buffer kept) ++ unread (files_of held files)

abbrev pub WritesAll : Result (Unit {0}) Fault → Kept → Held → HostFiles → HostFiles → Type 0
WritesAll (Ok done) kept held files left =
    left ≡ record (after_writing (bytes_of_all kept held files) files) { unread = left.unread }
WritesAll (Err fault) kept held files left = left.named ≡ files.named

-- and the output has taken its name; or with a fault it is gone
abbrev pub ClosesAll : Result (Unit {0}) Fault → Kept → Held → HostFiles → HostFiles → Type 0
ClosesAll (Ok done) kept held files left =
    left ≡ record (after_closing (after_writing (bytes_of_all kept held files) files))
    { unread = left.unread }
ClosesAll (Err fault) kept held files left = left ≡ record files { unread = left.unread; output = None }
