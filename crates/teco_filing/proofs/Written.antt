-- Bytes that go to an output one after the other.
use Rattle.teco_filing.proofs.Prelude.{◌≡◌, ℕ, List, [], ◌++◌, Option, Some, None, Ok, Err, refl, sym, ap, ◌∙◌}
use Rattle.teco_filing.proofs.Prelude.{append-nil, Output, with_written, written_page, page_of_buffer, unread, Kept}
use Rattle.teco_filing.proofs.Prelude.{Held, files_of, HostFiles, Telling, Told, after_writing, Fault, told-on}
use Rattle.std.proofs.Common.{Result, append_assoc}
use Rattle.teco_hosts.specs.HostFiles.{Becomes, after_closing, after_dropping}
use Rattle.teco_hosts.specs.HostCalls.{Closes}
use Rattle.teco_filing.specs.Files.{ClosesAll, WritesAll, WritesUnread, bytes_of_all}

-- nothing is written
pub with_written-nil : (output : Option Output) → with_written [] output ≡ output
with_written-nil None = refl
with_written-nil (Some output) = ap (λ bytes. Some (record output { written = bytes })) (append-nil output.written)

pub ruleset nothing = (with_written-nil)

-- in two parts
written-twice : (first second : List ℕ) (output : Option Output)
    → with_written second (with_written first output) ≡ with_written (first ++ second) output
written-twice first second None = refl
written-twice first second (Some output) =
    ap (λ bytes. Some (record output { written = bytes })) (append_assoc output.written first second)

-- the buffer, and then all that is unread
module _ (kept : Kept) (held : Held) (bytes : List ℕ) (page : bytes ≡ written_page (page_of_buffer kept)) where
  then_unread : (result : Result (Unit {0}) Fault) (files mid left : HostFiles) → mid ≡ after_writing bytes files
      → WritesUnread result held mid left → WritesAll result kept held files left
  then_unread (Ok done) files mid left first second =
      let rest = unread (files_of held files) in
      second
      ∙ ap (λ m. record (after_writing (unread (files_of held m)) m) { unread = left.unread }) first
      ∙ ap (λ o. record files { unread = left.unread; output = o }) (written-twice bytes rest files.output)
      ∙ ap (λ p. record files { unread = left.unread; output = with_written (p ++ rest) files.output }) page
  then_unread (Err fault) files mid left first second = second ∙ ap (λ (m : HostFiles). m.named) first

  pub writes-all : (result : Result (Unit {0}) Fault) (x m y : Telling) → Becomes (after_writing bytes) x m
      → Told (WritesUnread result held) m y → Told (WritesAll result kept held) x y
  writes-all result = told-on (λ f m. m ≡ after_writing bytes f) (WritesUnread result held) (WritesAll result kept held)
      (then_unread result)

-- all was written, and then the output is closed, or that fails
pub closes-all : (kept : Kept) (held : Held) (result : Result (Unit {0}) Fault) (x y z : Telling)
    → Told (WritesAll (Ok tt) kept held) x y → Closes result y z → Told (ClosesAll result kept held) x z
closes-all kept held (Ok done) = told-on (WritesAll (Ok tt) kept held) (λ mid left. left ≡ after_closing mid)
    (ClosesAll (Ok done) kept held) (λ files mid left written closed.
    closed ∙ ap after_closing written
    ∙ ap (λ unread. record (after_closing (after_writing (bytes_of_all kept held files) files)) { unread = unread })
    (sym (ap (λ (k : HostFiles). k.unread) closed)))
closes-all kept held (Err fault) = told-on (WritesAll (Ok tt) kept held) (λ mid left. left ≡ after_dropping mid)
    (ClosesAll (Err fault) kept held) (λ files mid left written dropped.
    dropped ∙ ap after_dropping written ∙ ap (λ unread. record files { unread = unread; output = None })
    (sym (ap (λ (k : HostFiles). k.unread) dropped)))

-- some was written, and then the output is dropped
pub drops-all : (kept : Kept) (held : Held) (fault : Fault) (x y z : Telling)
    → Told (WritesAll (Err fault) kept held) x y → Becomes after_dropping y z
    → Told (ClosesAll (Err fault) kept held) x z
drops-all kept held fault = told-on (WritesAll (Err fault) kept held) (λ mid left. left ≡ after_dropping mid)
    (ClosesAll (Err fault) kept held) (λ files mid left written dropped.
    dropped ∙ ap (λ named. record mid { named = named; output = None }) written
    ∙ ap (λ unread. record files { unread = unread; output = None })
    (sym (ap (λ (k : HostFiles). k.unread) dropped)))
