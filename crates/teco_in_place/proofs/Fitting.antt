-- That some files fit what the host beneath notes.
use Rattle.std.proofs.Common.{◌≡◌, ◌≤◌, ℕ, List, [], ◌∷◌, cond, length, option_map, Bool, true, false, Option, Some}
use Rattle.std.proofs.Common.{None, refl, sym, ap, subst, ◌∙◌}
use Rattle.std.proofs.lemmas.Slice.Eq.{bytes_eq-Decides}
use Rattle.std.specs.List.{AllByRecursion}
use Rattle.std.specs.Prelude.{⊤, bytes_eq, if◌then◌else◌}
use Rattle.teco_in_place.proofs.Calls.{opens-file, opens-new}
use Rattle.teco_in_place.proofs.Editing.{same_name}
use Rattle.teco_in_place.specs.InPlace.{AreFittedInPlace, IsOneEdit, all_beneath, begun_by, is_new_text, new_text}
use Rattle.teco_model.specs.Files.{File, Output, file_named, with_closed, with_file, with_written}
use Rattle.teco_model.specs.laws.Whole.{AreBytes}
use Rattle.teco_hosts.proofs.Puts.{named-here, named-put}
use Rattle.teco_hosts.specs.Events.{Event, Happened, Happens, IsOfBytes, opened_input, gave, ended, opened_output}
use Rattle.teco_hosts.specs.Events.{wrote, closed, dropped, measured}
use Rattle.teco_hosts.specs.HostFiles.{HostFiles, after_closing, after_dropping, after_opening, after_writing}
use Rattle.teco_hosts.specs.Noting.{EndsAtEnd}
use Rattle.teco_hosts.specs.Possible.{AreFitted, GivesMeasured, IsUnopened, NotesFit, OpensAnew}

bytes-beneath : (replaces : Bool) (events : List Event) → AllByRecursion IsOfBytes events
    → AllByRecursion IsOfBytes (all_beneath replaces events)
bytes-beneath replaces [] h = tt
bytes-beneath replaces (opened_input name ∷ events) h = (tt, bytes-beneath replaces events h.1)
bytes-beneath replaces (gave bytes ∷ events) h = (h.0, bytes-beneath replaces events h.1)
bytes-beneath replaces (ended ∷ events) h = (tt, bytes-beneath replaces events h.1)
bytes-beneath replaces (opened_output name ∷ events) h = (tt, bytes-beneath replaces events h.1)
bytes-beneath replaces (wrote bytes ∷ events) h = (h.0, bytes-beneath replaces events h.1)
bytes-beneath true (closed ∷ events) h = (tt, bytes-beneath true events h.1)
bytes-beneath false (closed ∷ events) h = (tt, bytes-beneath false events h.1)
bytes-beneath replaces (dropped ∷ events) h = (tt, bytes-beneath replaces events h.1)
bytes-beneath replaces (measured most ∷ events) h = (tt, bytes-beneath replaces events h.1)

order-beneath : (replaces : Bool) (events : List Event) (end end' : Bool) → EndsAtEnd end events end'
    → EndsAtEnd end (all_beneath replaces events) end'
order-beneath replaces [] end end' h = h
order-beneath replaces (opened_input name ∷ events) end end' h = order-beneath replaces events false end' h
order-beneath replaces (gave bytes ∷ events) end end' h = (h.0, order-beneath replaces events false end' h.1)
order-beneath replaces (ended ∷ events) end end' h = (h.0, order-beneath replaces events true end' h.1)
order-beneath replaces (opened_output name ∷ events) end end' h = order-beneath replaces events end end' h
order-beneath replaces (wrote bytes ∷ events) end end' h = order-beneath replaces events end end' h
order-beneath true (closed ∷ events) end end' h = order-beneath true events end end' h
order-beneath false (closed ∷ events) end end' h = order-beneath false events end end' h
order-beneath replaces (dropped ∷ events) end end' h = order-beneath replaces events end end' h
order-beneath replaces (measured most ∷ events) end end' h = order-beneath replaces events end end' h

-- no file is opened where one was
unopened-beneath : (replaces : Bool) (name : List ℕ) (events : List Event) (begun : Bool)
    → begun_by true events ≡ Some begun → IsUnopened name (all_beneath replaces events)
unopened-beneath replaces name [] begun is = tt
unopened-beneath replaces name (opened_input other ∷ events) begun is = let no =
    opens-file true other events begun is in absurd (let e = no.0 in cc)
unopened-beneath replaces name (gave bytes ∷ events) begun is = unopened-beneath replaces name events begun is
unopened-beneath replaces name (ended ∷ events) begun is = unopened-beneath replaces name events begun is
unopened-beneath replaces name (opened_output other ∷ events) begun is =
    unopened-beneath replaces name events begun (opens-new true other events begun is).1
unopened-beneath replaces name (wrote bytes ∷ events) begun is = unopened-beneath replaces name events begun is
unopened-beneath true name (closed ∷ events) begun is = unopened-beneath true name events begun is
unopened-beneath false name (closed ∷ events) begun is = unopened-beneath false name events begun is
unopened-beneath replaces name (dropped ∷ events) begun is = unopened-beneath replaces name events begun is
unopened-beneath replaces name (measured most ∷ events) begun is = unopened-beneath replaces name events begun is

anew-beneath : (replaces : Bool) (events : List Event) (before begun : Bool) → begun_by before events ≡ Some begun
    → OpensAnew (all_beneath replaces events)
anew-beneath replaces [] before begun is = tt
anew-beneath replaces (opened_input name ∷ events) before begun is =
    let opens = opens-file before name events begun is in
    (unopened-beneath replaces name events begun opens.2, anew-beneath replaces events true begun opens.2)
anew-beneath replaces (gave bytes ∷ events) before begun is = anew-beneath replaces events before begun is
anew-beneath replaces (ended ∷ events) before begun is = anew-beneath replaces events before begun is
anew-beneath replaces (opened_output name ∷ events) before begun is =
    let opens = opens-new before name events begun is in
    (unopened-beneath replaces _ events begun opens.1, anew-beneath replaces events true begun opens.1)
anew-beneath replaces (wrote bytes ∷ events) before begun is = anew-beneath replaces events before begun is
anew-beneath true (closed ∷ events) before begun is = anew-beneath true events before begun is
anew-beneath false (closed ∷ events) before begun is = anew-beneath false events before begun is
anew-beneath replaces (dropped ∷ events) before begun is = anew-beneath replaces events before begun is
anew-beneath replaces (measured most ∷ events) before begun is = anew-beneath replaces events before begun is

-- no new text is opened as a file
abbrev OpensPlain : List Event → Type 0
OpensPlain [] = ⊤
OpensPlain (opened_input name ∷ events) = (is_new_text name ≡ false) × OpensPlain events
OpensPlain (gave bytes ∷ events) = OpensPlain events
OpensPlain (ended ∷ events) = OpensPlain events
OpensPlain (opened_output name ∷ events) = OpensPlain events
OpensPlain (wrote bytes ∷ events) = OpensPlain events
OpensPlain (closed ∷ events) = OpensPlain events
OpensPlain (dropped ∷ events) = OpensPlain events
OpensPlain (measured most ∷ events) = OpensPlain events

plain-beneath : (replaces : Bool) (events : List Event) (before begun : Bool) → begun_by before events ≡ Some begun
    → OpensPlain (all_beneath replaces events)
plain-beneath replaces [] before begun is = tt
plain-beneath replaces (opened_input name ∷ events) before begun is =
    let opens = opens-file before name events begun is in
    (opens.1, plain-beneath replaces events true begun opens.2)
plain-beneath replaces (gave bytes ∷ events) before begun is = plain-beneath replaces events before begun is
plain-beneath replaces (ended ∷ events) before begun is = plain-beneath replaces events before begun is
plain-beneath replaces (opened_output name ∷ events) before begun is =
    plain-beneath replaces events true begun (opens-new before name events begun is).1
plain-beneath replaces (wrote bytes ∷ events) before begun is = plain-beneath replaces events before begun is
plain-beneath true (closed ∷ events) before begun is = plain-beneath true events before begun is
plain-beneath false (closed ∷ events) before begun is = plain-beneath false events before begun is
plain-beneath replaces (dropped ∷ events) before begun is = plain-beneath replaces events before begun is
plain-beneath replaces (measured most ∷ events) before begun is = plain-beneath replaces events before begun is

-- ---- files without new texts
plain_files : List File → List File
plain_files [] = []
plain_files (file ∷ files) = if is_new_text file.name then plain_files files else file ∷ plain_files files

abbrev AllBytes : List File → Type 0
AllBytes files = AllByRecursion (λ (file : File). AreBytes file.bytes) files

plain_bytes : (files : List File) → AllBytes files → AllBytes (plain_files files)
unfolding plain_files
plain_bytes [] h = tt
plain_bytes (file ∷ files) h = by (is_new_text file.name) (plain_bytes files h.1) where
  by : (t : Bool) → AllBytes (plain_files files) → AllBytes (if t then plain_files files else file ∷ plain_files files)
  by true rest = rest
  by false rest = (h.0, rest)

-- a new text has another name
unlike : (a b : List ℕ) → is_new_text a ≡ true → is_new_text b ≡ false → bytes_eq a b ≡ false
unlike a b new plain = by (bytes_eq a b) refl where
  by : (t : Bool) → bytes_eq a b ≡ t → bytes_eq a b ≡ false
  by true e = absurd (let same : a ≡ b = (bytes_eq-Decides a b).0 e in
      let both : is_new_text b ≡ true = subst (λ n. is_new_text n ≡ true) same new in cc)
  by false e = e

-- none is a new text
apart : (a b : List ℕ) → is_new_text a ≡ false → is_new_text b ≡ true → bytes_eq a b ≡ false
apart a b plain new = by (bytes_eq a b) refl where
  by : (t : Bool) → bytes_eq a b ≡ t → bytes_eq a b ≡ false
  by true e = absurd (let same : a ≡ b = (bytes_eq-Decides a b).0 e in
      let both : is_new_text b ≡ false = subst (λ n. is_new_text n ≡ false) same plain in cc)
  by false e = e

none_new : (name : List ℕ) → is_new_text name ≡ true → (files : List File) → file_named name (plain_files files) ≡ None
unfolding plain_files
none_new name new [] = refl
none_new name new (file ∷ files) = by (is_new_text file.name) refl (none_new name new files) where
  by : (t : Bool) → is_new_text file.name ≡ t → file_named name (plain_files files) ≡ None
      → file_named name (if t then plain_files files else file ∷ plain_files files) ≡ None
  by true is rest = rest
  by false is rest = rw (apart file.name name is new) rest

-- and all others are there
others_stay : (name : List ℕ) → is_new_text name ≡ false → (files : List File)
    → file_named name (plain_files files) ≡ file_named name files
unfolding plain_files
others_stay name plain [] = refl
others_stay name plain (file ∷ files) = by (is_new_text file.name) refl (others_stay name plain files) where
  by : (t : Bool) → is_new_text file.name ≡ t → file_named name (plain_files files) ≡ file_named name files
      → file_named name (if t then plain_files files else file ∷ plain_files files) ≡ file_named name (file ∷ files)
  by true is rest =
      let other : bytes_eq file.name name ≡ false = unlike file.name name is plain in
      rw other rest
  by false is rest = ap (λ o. cond (bytes_eq file.name name) (Some file.bytes) o) rest

-- ---- the same calls, over files that are alike but for new texts
record AreAlike (files plain : HostFiles) : Type 0 where
  unread : plain.unread ≡ files.unread
  output : plain.output ≡ files.output
  named : (name : List ℕ) → is_new_text name ≡ false → file_named name plain.named ≡ file_named name files.named

put_alike : (wanted bytes : List ℕ) (named plain : List File) (name : List ℕ)
    → file_named name plain ≡ file_named name named
    → file_named name (with_file wanted bytes plain) ≡ file_named name (with_file wanted bytes named)
put_alike wanted bytes named plain name same = same_name wanted name _
    (λ is. subst (λ n. file_named n (with_file wanted bytes plain) ≡ file_named n (with_file wanted bytes named)) is
    (named-here wanted bytes plain ∙ sym (named-here wanted bytes named)))
    (λ away. named-put wanted bytes name plain away ∙ same ∙ sym (named-put wanted bytes name named away))

closed_alike : (output : Option Output) (named plain : List File) (name : List ℕ)
    → file_named name plain ≡ file_named name named
    → file_named name (with_closed output plain) ≡ file_named name (with_closed output named)
closed_alike None named plain name same = same
closed_alike (Some output) named plain name same = put_alike output.name output.written named plain name same

Onward : List Event → HostFiles → Type 0
Onward events plain = (left : HostFiles) × Happened events plain left

on : (event : Event) (events : List Event) (plain mid : HostFiles) → Happens event plain mid → Onward events mid
    → Onward (event ∷ events) plain
unfolding Onward
on event events plain mid happens more = (more.0, (mid, happens, more.1))

alike : (events : List Event) (files left plain : HostFiles) → OpensPlain events → AreAlike files plain
    → Happened events files left → Onward events plain
unfolding Onward
alike [] files left plain opens s is = (plain, refl)
alike (opened_input name ∷ events) files left plain opens s is =
    let mid = is.0 in
    let there = record plain { unread = mid.unread } in
    on (opened_input name) events plain there (s.named name opens.0 ∙ is.1.0, refl)
    (alike events mid left there opens.1 (subst (λ m. AreAlike m (record plain { unread = mid.unread })) (sym is.1.1)
    (record { unread = refl; output = s.output; named = s.named })) is.2)
alike (gave bytes ∷ events) files left plain opens s is =
    let mid = is.0 in
    let there = record plain { unread = mid.unread } in
    on (gave bytes) events plain there (s.unread ∙ is.1.0, refl)
    (alike events mid left there opens (subst (λ m. AreAlike m (record plain { unread = mid.unread })) (sym is.1.1)
    (record { unread = refl; output = s.output; named = s.named })) is.2)
alike (ended ∷ events) files left plain opens s is =
    on ended events plain plain (s.unread ∙ is.1.0, refl) (alike events is.0 left plain opens (rw (is.1.1) s) is.2)
alike (opened_output name ∷ events) files left plain opens s is =
    on (opened_output name) events plain (after_opening name plain) refl
    (alike events is.0 left (after_opening name plain) opens
    (rw (is.1) (record { unread = s.unread; output = refl; named = s.named })) is.2)
alike (wrote bytes ∷ events) files left plain opens s is =
    on (wrote bytes) events plain (after_writing bytes plain) refl
    (alike events is.0 left (after_writing bytes plain) opens
    (rw (is.1) (record { unread = s.unread; output = ap (with_written bytes) s.output; named = s.named })) is.2)
alike (closed ∷ events) files left plain opens s is =
    on closed events plain (after_closing plain) refl
    (alike events is.0 left (after_closing plain) opens
    (rw (is.1, s.output) (record {
      unread = s.unread;
      output = refl;
      named = λ name away. closed_alike files.output files.named plain.named name (s.named name away);
    })) is.2)
alike (dropped ∷ events) files left plain opens s is =
    on dropped events plain (after_dropping plain) refl
    (alike events is.0 left (after_dropping plain) opens
    (rw (is.1) (record { unread = s.unread; output = refl; named = s.named })) is.2)
alike (measured most ∷ events) files left plain opens s is =
    on (measured most) events plain plain (subst (λ u. length u ≤ most) (sym s.unread) is.1.0, refl)
    (alike events is.0 left plain opens (rw (is.1.1) s) is.2)

-- ---- the whole
no_output : (output : Option Output) → None ≡ option_map (λ (o : Output). o.name) output → output ≡ None
no_output None is = refl
no_output (Some output) is = absurd (cc)

without_new : (events : List Event) → OpensPlain events → AreFitted None events → AreFittedInPlace events
unfolding Onward
without_new events opens fitted =
    let files = fitted.files in
    let plain = record files { named = plain_files files.named } in
    let there = alike events files fitted.left plain opens
    (record { unread = refl; output = refl; named = λ name away. others_stay name away files.named })
    fitted.happened in
    record {
      files = plain;
      left = there.0;
      bytes = record {
        named = plain_bytes files.named fitted.bytes.named;
        unread = fitted.bytes.unread;
        output = fitted.bytes.output;
      };
      ready = record {
        closed = no_output files.output fitted.output;
        free = λ name. none_new (new_text name) refl files.named;
      };
      happened = there.1;
    }

pub fits-beneath : NotesFit → (replaces : Bool) (events : List Event) (end end' begun : Bool)
    → AllByRecursion IsOfBytes events → EndsAtEnd end events end' → IsOneEdit events begun
    → GivesMeasured (all_beneath replaces events) → AreFittedInPlace (all_beneath replaces events)
fits-beneath fit replaces events end end' begun bytes order one gives =
    without_new (all_beneath replaces events) (plain-beneath replaces events false begun one)
    (fit None end end' (all_beneath replaces events) (bytes-beneath replaces events bytes)
    (order-beneath replaces events end end' order) gives (anew-beneath replaces events false begun one) tt)
