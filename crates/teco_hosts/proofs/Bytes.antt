-- Files of bytes stay so.
use Rattle.teco_hosts.proofs.Prelude.{◌≡◌, ℕ, List, [], ◌∷◌, ◌++◌, Bool, true, false, cond, Option, Some, None}
use Rattle.teco_hosts.proofs.Prelude.{option_map, sym, subst, arith, IfSome, bytes_eq, AllByRecursion, File, Input}
use Rattle.teco_hosts.proofs.Prelude.{Output, file_named, with_closed, with_file, with_written, FF, Page, AreBytes}
use Rattle.teco_hosts.proofs.Prelude.{Event, Happened, IsOfBytes, opened_input, gave, ended, opened_output, wrote}
use Rattle.teco_hosts.proofs.Prelude.{closed, dropped, measured, Held, behind_held, files_of, unread_bytes}
use Rattle.teco_hosts.proofs.Prelude.{written_if_any, HostFiles, AreOfBytes, Becomes, NoneUnread, Reads, Tells}
use Rattle.teco_hosts.proofs.Prelude.{after_writing}
use Rattle.teco_model.specs.Pages.{written_page}
use Rattle.teco_model.specs.laws.Whole.{AreWholeFiles}
use Rattle.teco_hosts.specs.Events.{Happens}
use Rattle.teco_hosts.specs.Held.{HoldsBytes}
use Rattle.teco_hosts.specs.HostCalls.{HasOpened}
use Rattle.teco_hosts.specs.HostFiles.{Fits, after_closing}

-- each file has bytes
abbrev Named : List File → Type 0
Named = AllByRecursion (λ (file : File). AreBytes file.bytes)

-- the output has
abbrev Written : Option Output → Type 0
Written o = IfSome o (λ (output : Output). AreBytes output.written)

either : {X : Type 0} (P : X → Type 0) (b : Bool) (x y : X) → P x → P y → P (cond b x y)
either P true x y p q = p
either P false x y p q = q

-- bytes beside bytes
pub bytes_joined : (xs ys : List ℕ) → AreBytes xs → AreBytes ys → AreBytes (xs ++ ys)
bytes_joined [] ys h i = i
bytes_joined (x ∷ xs) ys h i = (h.0, bytes_joined xs ys h.1 i)

-- those behind others
bytes_behind : (xs ys : List ℕ) → AreBytes (xs ++ ys) → AreBytes ys
bytes_behind [] ys h = h
bytes_behind (x ∷ xs) ys h = bytes_behind xs ys h.1

named_bytes : (name : List ℕ) (named : List File) → Named named → IfSome (file_named name named) AreBytes
named_bytes name [] h = tt
named_bytes name (file ∷ files) h = either (λ o. IfSome o AreBytes) (bytes_eq file.name name) (Some file.bytes)
    (file_named name files) h.0 (named_bytes name files h.1)

put_bytes : (name bytes : List ℕ) (named : List File) → AreBytes bytes → Named named
    → Named (with_file name bytes named)
put_bytes name bytes [] h i = (h, tt)
put_bytes name bytes (file ∷ files) h i =
    either Named (bytes_eq file.name name) (record { name = name; bytes = bytes } ∷ files)
    (file ∷ with_file name bytes files) (h, i.1) (i.0, put_bytes name bytes files h i.1)

closed_bytes : (o : Option Output) (named : List File) → Written o → Named named → Named (with_closed o named)
closed_bytes None named h i = i
closed_bytes (Some output) named h i = put_bytes output.name output.written named h i

written_bytes : (bytes : List ℕ) (o : Option Output) → AreBytes bytes → Written o → Written (with_written bytes o)
written_bytes bytes None h i = tt
written_bytes bytes (Some output) h i = bytes_joined output.written bytes i h

-- what calls do
whole_closing : (files : HostFiles) → AreOfBytes files → AreOfBytes (after_closing files)
whole_closing files w = record {
  named = closed_bytes files.output files.named w.output w.named;
  unread = w.unread;
  output = tt;
}

whole_writing : (bytes : List ℕ) (files : HostFiles) → AreBytes bytes → AreOfBytes files
    → AreOfBytes (after_writing bytes files)
whole_writing bytes files h w =
    record { named = w.named; unread = w.unread; output = written_bytes bytes files.output h w.output }

whole_left : (files left : HostFiles) → AreBytes left.unread → left ≡ record files { unread = left.unread }
    → AreOfBytes files → AreOfBytes left
whole_left files left unread same w =
    let whole : AreOfBytes (record files { unread = left.unread }) =
    record { named = w.named; unread = unread; output = w.output } in
    subst AreOfBytes (sym same) whole

whole_opened : (name : List ℕ) (files left : HostFiles) → file_named name files.named ≡ Some left.unread
    → left ≡ record files { unread = left.unread } → AreOfBytes files → AreOfBytes left
whole_opened name files left is same w =
    whole_left files left (subst (λ o. IfSome o AreBytes) is (named_bytes name files.named w.named)) same w

whole_read : (bytes : List ℕ) (files left : HostFiles) → files.unread ≡ bytes ++ left.unread
    → left ≡ record files { unread = left.unread } → AreOfBytes files → AreOfBytes left
whole_read bytes files left is same w =
    whole_left files left (bytes_behind bytes left.unread (subst AreBytes is w.unread)) same w

whole_after : (e : Event) (files left : HostFiles) → IsOfBytes e → Happens e files left → AreOfBytes files
    → AreOfBytes left
whole_after (opened_input name) files left b h w = whole_opened name files left h.0 h.1 w
whole_after (gave bytes) files left b h w = whole_read bytes files left h.0 h.1 w
whole_after ended files left b h w = subst AreOfBytes (sym h.1) w
whole_after (opened_output name) files left b h w =
    subst AreOfBytes (sym h) (record { named = w.named; unread = w.unread; output = tt })
whole_after (wrote bytes) files left b h w = subst AreOfBytes (sym h) (whole_writing bytes files b w)
whole_after closed files left b h w = subst AreOfBytes (sym h) (whole_closing files w)
whole_after dropped files left b h w =
    subst AreOfBytes (sym h) (record { named = w.named; unread = w.unread; output = tt })
whole_after (measured most) files left b h w = subst AreOfBytes (sym h.1) w

pub whole_behind : (events : List Event) (files left : HostFiles) → AllByRecursion IsOfBytes events
    → Happened events files left → AreOfBytes files → AreOfBytes left
whole_behind [] files left b h w = subst AreOfBytes (sym h) w
whole_behind (e ∷ events) files left b h w = whole_behind events h.0 left b.1 h.2 (whole_after e files h.0 b.0 h.1 w)

-- those of some events and others
pub both_of_bytes : (a b : List Event) → AllByRecursion IsOfBytes a → AllByRecursion IsOfBytes b
    → AllByRecursion IsOfBytes (a ++ b)
both_of_bytes [] b h i = i
both_of_bytes (e ∷ a) b h i = (h.0, both_of_bytes a b h.1 i)

-- what is unread of an input
page_bytes : (page : Page) → AreBytes page.text → AreBytes (written_page page)
page_bytes page h = bytes_joined page.text (cond page.ff (FF ∷ []) []) h
    (either AreBytes page.ff (FF ∷ []) [] (omega arith, tt) tt)

ready_bytes : (ready : Option Page) → IfSome ready (λ (page : Page). AreBytes page.text)
    → AreBytes (written_if_any ready)
ready_bytes None h = tt
ready_bytes (Some page) h = page_bytes page h

behind_bytes : (end : Bool) (bytes : List ℕ) → AreBytes bytes → AreBytes (behind_held end bytes)
behind_bytes true bytes h = tt
behind_bytes false bytes h = h

unread_whole : (held : Held) (files : HostFiles) → HoldsBytes held → AreOfBytes files
    → AreBytes (unread_bytes held files)
unread_whole held files h w =
    bytes_joined (written_if_any held.ready ++ held.ahead) (behind_held held.end files.unread)
    (bytes_joined (written_if_any held.ready) held.ahead (ready_bytes held.ready h.ready) h.ahead)
    (behind_bytes held.end files.unread w.unread)

input_whole : (input : Option (List ℕ)) (bytes : List ℕ) → AreBytes bytes
    → IfSome (option_map (λ name. record { name = name; unread = bytes }) input) (λ (i : Input). AreBytes i.unread)
input_whole None bytes h = tt
input_whole (Some name) bytes h = h

-- the files of an editor
pub files_whole : (held : Held) (files : HostFiles) → HoldsBytes held → AreOfBytes files
    → AreWholeFiles (files_of held files)
files_whole held files h w = record {
  named = w.named;
  input = input_whole held.input (unread_bytes held files) (unread_whole held files h w);
  output = w.output;
}

-- of files that are told
pub told-opened : (name : List ℕ) (files left : HostFiles) → file_named name files.named ≡ Some left.unread
    → left ≡ record files { unread = left.unread } → HasOpened name (Tells files) (Tells left)
told-opened name files left is same = λ w. ((is, same), whole_opened name files left is same w)

pub told-read : (bytes : List ℕ) (files left : HostFiles) → files.unread ≡ bytes ++ left.unread
    → left ≡ record files { unread = left.unread } → Reads bytes (Tells files) (Tells left)
told-read bytes files left is same = λ w. ((is, same), whole_read bytes files left is same w)

pub told-end : (files left : HostFiles) → left.unread ≡ [] → left ≡ record files { unread = left.unread }
    → NoneUnread (Tells files) (Tells left)
told-end files left none same = λ w. (none, whole_left files left (subst AreBytes (sym none) tt) same w)

pub told-closed : (files left : HostFiles) → left ≡ after_closing files
    → Becomes after_closing (Tells files) (Tells left)
told-closed files left same = λ w. (same, subst AreOfBytes (sym same) (whole_closing files w))

-- of what is noted of one call
pub noted : (R : HostFiles → HostFiles → Type 0) (a new : List Event) (e : Event) → new ≡ a ++ e ∷ [] → IsOfBytes e
    → ((f g : HostFiles) → Happens e f g → R f g) → Fits R a new
noted R a new e same bytes r = record {
  meanwhile = e ∷ [];
  noted = same;
  bytes = (bytes, tt);
  holds = λ f g w h. subst (R f) (sym h.2) (r f h.0 h.1);
}
