-- Notes that can be are fitted by some files.
use Rattle.teco_hosts.proofs.Prelude.{◌≡◌, ℕ, List, [], ◌∷◌, Bool, true, false, Option, Some, None, option_map}
use Rattle.teco_hosts.proofs.Prelude.{refl, ◌∙◌, IfSome, ◌≢◌, AllByRecursion, File, Output, file_named}
use Rattle.teco_hosts.proofs.Prelude.{with_file, with_closed, with_written, AreBytes, Event, Happened, IsOfBytes}
use Rattle.teco_hosts.proofs.Prelude.{opened_input, gave, ended, opened_output, wrote, closed, dropped, measured}
use Rattle.teco_hosts.proofs.Prelude.{EndsAtEnd}
use Rattle.std.proofs.lemmas.Bool.{true≢false}
use Rattle.std.specs.Prelude.{⊤}
use Rattle.teco_model.specs.Files.{output_of}
use Rattle.teco_hosts.specs.Changes.{HostFiles, after_opening, after_writing, after_closing, after_dropping}
use Rattle.teco_hosts.specs.Possible.{GivesMeasured, IsUnopened, NotesFit, OpensAnew, given_next}
use Rattle.teco_hosts.proofs.Bytes.{bytes_joined}
use Rattle.teco_hosts.proofs.Puts.{named-before, named-first, named-put}

-- the inputs that are opened, of the bytes that are given of them
abbrev inputs : List Event → List File
inputs [] = []
inputs (opened_input name ∷ events) = record { name = name; bytes = given_next events } ∷ inputs events
inputs (gave bytes ∷ events) = inputs events
inputs (ended ∷ events) = inputs events
inputs (opened_output name ∷ events) = inputs events
inputs (wrote bytes ∷ events) = inputs events
inputs (closed ∷ events) = inputs events
inputs (dropped ∷ events) = inputs events
inputs (measured most ∷ events) = inputs events

-- each input that is opened has a name, and the bytes that are given of it
abbrev Have : List File → List Event → Type 0
Have named [] = ⊤
Have named (opened_input name ∷ events) = (file_named name named ≡ Some (given_next events)) × Have named events
Have named (gave bytes ∷ events) = Have named events
Have named (ended ∷ events) = Have named events
Have named (opened_output name ∷ events) = Have named events
Have named (wrote bytes ∷ events) = Have named events
Have named (closed ∷ events) = Have named events
Have named (dropped ∷ events) = Have named events
Have named (measured most ∷ events) = Have named events

have-before : (file : File) (named : List File) (events : List Event) → IsUnopened file.name events → Have named events
    → Have (file ∷ named) events
have-before file named [] u h = tt
have-before file named (opened_input name ∷ events) u h =
    (named-before file name named u.0 ∙ h.0, have-before file named events u.1 h.1)
have-before file named (gave bytes ∷ events) u h = have-before file named events u h
have-before file named (ended ∷ events) u h = have-before file named events u h
have-before file named (opened_output name ∷ events) u h = have-before file named events u h
have-before file named (wrote bytes ∷ events) u h = have-before file named events u h
have-before file named (closed ∷ events) u h = have-before file named events u h
have-before file named (dropped ∷ events) u h = have-before file named events u h
have-before file named (measured most ∷ events) u h = have-before file named events u h

have-inputs : (events : List Event) → OpensAnew events → Have (inputs events) events
have-inputs [] a = tt
have-inputs (opened_input name ∷ events) a =
    let file : File = record { name = name; bytes = given_next events } in (
      named-first name (given_next events) (inputs events),
      have-before file (inputs events) events a.0 (have-inputs events a.1),
    )
have-inputs (gave bytes ∷ events) a = have-inputs events a
have-inputs (ended ∷ events) a = have-inputs events a
have-inputs (opened_output name ∷ events) a = have-inputs events a.1
have-inputs (wrote bytes ∷ events) a = have-inputs events a
have-inputs (closed ∷ events) a = have-inputs events a
have-inputs (dropped ∷ events) a = have-inputs events a
have-inputs (measured most ∷ events) a = have-inputs events a

have-put : (name bytes : List ℕ) (named : List File) (events : List Event) → IsUnopened name events → Have named events
    → Have (with_file name bytes named) events
have-put name bytes named [] u h = tt
have-put name bytes named (opened_input wanted ∷ events) u h =
    (named-put name bytes wanted named u.0 ∙ h.0, have-put name bytes named events u.1 h.1)
have-put name bytes named (gave b ∷ events) u h = have-put name bytes named events u h
have-put name bytes named (ended ∷ events) u h = have-put name bytes named events u h
have-put name bytes named (opened_output n ∷ events) u h = have-put name bytes named events u h
have-put name bytes named (wrote b ∷ events) u h = have-put name bytes named events u h
have-put name bytes named (closed ∷ events) u h = have-put name bytes named events u h
have-put name bytes named (dropped ∷ events) u h = have-put name bytes named events u h
have-put name bytes named (measured most ∷ events) u h = have-put name bytes named events u h

-- no input is opened of the name of the output
abbrev Away : Option Output → List Event → Type 0
Away o events = IfSome o (λ (output : Output). IsUnopened output.name events)

have-closed : (o : Option Output) (named : List File) (events : List Event) → Away o events → Have named events
    → Have (with_closed o named) events
have-closed None named events u h = h
have-closed (Some output) named events u h = have-put output.name output.written named events u h

away-writing : (bytes : List ℕ) (o : Option Output) (events : List Event) → Away o events
    → Away (with_written bytes o) events
away-writing bytes None events u = tt
away-writing bytes (Some output) events u = u

away-on : (name : List ℕ) (o : Option Output) (events : List Event) → Away o (opened_input name ∷ events)
    → Away o events
away-on name None events u = tt
away-on name (Some output) events u = u.1

-- nothing is given behind the end
none-given : (events : List Event) (end' : Bool) → EndsAtEnd true events end' → given_next events ≡ []
none-given [] end' o = refl
none-given (opened_input name ∷ events) end' o = refl
none-given (gave bytes ∷ events) end' o = absurd (true≢false o.0)
none-given (ended ∷ events) end' o = absurd (true≢false o.0)
none-given (opened_output name ∷ events) end' o = none-given events end' o
none-given (wrote bytes ∷ events) end' o = none-given events end' o
none-given (closed ∷ events) end' o = none-given events end' o
none-given (dropped ∷ events) end' o = none-given events end' o
none-given (measured most ∷ events) end' o = none-given events end' o

-- files that are ready for what is noted
record AreReady (files : HostFiles) (events : List Event) : Type 0 where
  unread : files.unread ≡ given_next events
  named : Have files.named events
  output : Away files.output events

-- an input that is read on
abbrev read-on : (files : HostFiles) (bytes : List ℕ) → HostFiles
read-on files bytes = record files { unread = bytes }

happen : (events : List Event) (end end' : Bool) (files : HostFiles) → EndsAtEnd end events end' → GivesMeasured events
    → OpensAnew events → AreReady files events → (left : HostFiles) × Happened events files left
happen [] end end' files o m a r = (files, refl)
happen (opened_input name ∷ events) end end' files o m a r =
    let mid = read-on files (given_next events) in
    let ready : AreReady mid events =
    record { unread = refl; named = r.named.1; output = away-on name files.output events r.output } in
    let on = happen events false end' mid o m a.1 ready in
    (on.0, (mid, (r.named.0, refl), on.1))
happen (gave bytes ∷ events) end end' files o m a r =
    let mid = read-on files (given_next events) in
    let ready : AreReady mid events = record { unread = refl; named = r.named; output = r.output } in
    let on = happen events false end' mid o.1 m a ready in
    (on.0, (mid, (r.unread, refl), on.1))
happen (ended ∷ events) end end' files o m a r =
    let ready : AreReady files events = record { unread = r.unread; named = r.named; output = r.output } in
    let on = happen events true end' files o.1 m a ready in
    (on.0, (files, (r.unread ∙ none-given events end' o.1, refl), on.1))
happen (opened_output name ∷ events) end end' files o m a r =
    let mid = after_opening name files in
    let ready : AreReady mid events = record { unread = r.unread; named = r.named; output = a.0 } in
    let on = happen events end end' mid o m a.1 ready in
    (on.0, (mid, refl, on.1))
happen (wrote bytes ∷ events) end end' files o m a r =
    let mid = after_writing bytes files in
    let ready : AreReady mid events =
    record { unread = r.unread; named = r.named; output = away-writing bytes files.output events r.output } in
    let on = happen events end end' mid o m a ready in
    (on.0, (mid, refl, on.1))
happen (closed ∷ events) end end' files o m a r =
    let mid = after_closing files in
    let ready : AreReady mid events =
    record {
      unread = r.unread;
      named = have-closed files.output files.named events r.output r.named;
      output = tt;
    } in
    let on = happen events end end' mid o m a ready in
    (on.0, (mid, refl, on.1))
happen (dropped ∷ events) end end' files o m a r =
    let mid = after_dropping files in
    let ready : AreReady mid events = record { unread = r.unread; named = r.named; output = tt } in
    let on = happen events end end' mid o m a ready in
    (on.0, (mid, refl, on.1))
happen (measured most ∷ events) end end' files o m a r =
    let ready : AreReady files events = record { unread = r.unread; named = r.named; output = r.output } in
    let on = happen events end end' files o m.1 a ready in
    (on.0, (files, (rw r.unread m.0, refl), on.1))

-- what is given is of bytes
given_bytes : (events : List Event) → AllByRecursion IsOfBytes events → AreBytes (given_next events)
given_bytes [] b = tt
given_bytes (opened_input name ∷ events) b = tt
given_bytes (gave bytes ∷ events) b = bytes_joined bytes (given_next events) b.0 (given_bytes events b.1)
given_bytes (ended ∷ events) b = given_bytes events b.1
given_bytes (opened_output name ∷ events) b = given_bytes events b.1
given_bytes (wrote bytes ∷ events) b = given_bytes events b.1
given_bytes (closed ∷ events) b = given_bytes events b.1
given_bytes (dropped ∷ events) b = given_bytes events b.1
given_bytes (measured most ∷ events) b = given_bytes events b.1

inputs_bytes : (events : List Event) → AllByRecursion IsOfBytes events
    → AllByRecursion (λ (file : File). AreBytes file.bytes) (inputs events)
inputs_bytes [] b = tt
inputs_bytes (opened_input name ∷ events) b = (given_bytes events b.1, inputs_bytes events b.1)
inputs_bytes (gave bytes ∷ events) b = inputs_bytes events b.1
inputs_bytes (ended ∷ events) b = inputs_bytes events b.1
inputs_bytes (opened_output name ∷ events) b = inputs_bytes events b.1
inputs_bytes (wrote bytes ∷ events) b = inputs_bytes events b.1
inputs_bytes (closed ∷ events) b = inputs_bytes events b.1
inputs_bytes (dropped ∷ events) b = inputs_bytes events b.1
inputs_bytes (measured most ∷ events) b = inputs_bytes events b.1

-- an output of a name, with nothing written to it
abbrev output_named : Option (List ℕ) → Option Output
output_named = option_map output_of

away-named : (name : Option (List ℕ)) (events : List Event) → IfSome name (λ n. IsUnopened n events)
    → Away (output_named name) events
away-named None events u = tt
away-named (Some name) events u = u

bytes-named : (name : Option (List ℕ)) → IfSome (output_named name) (λ (output : Output). AreBytes output.written)
bytes-named None = tt
bytes-named (Some name) = tt

name-named : (name : Option (List ℕ)) → name ≡ option_map (λ (output : Output). output.name) (output_named name)
name-named None = refl
name-named (Some name) = refl

pub notes_fit : NotesFit
notes_fit name end end' events b o m a u =
    let files : HostFiles = record { named = inputs events; unread = given_next events; output = output_named name } in
    let ready : AreReady files events =
    record { unread = refl; named = have-inputs events a; output = away-named name events u } in
    let on = happen events end end' files o m a ready in
    record {
      files = files;
      left = on.0;
      bytes = record { named = inputs_bytes events b; unread = given_bytes events b; output = bytes-named name };
      output = name-named name;
      happened = on.1;
    }
