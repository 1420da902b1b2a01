-- What is noted of one call more.
use Rattle.std.proofs.Common.{◌≡◌, ℕ, List, [], ◌∷◌, ◌++◌, ◌==◌, append-nil, cond, length, take, Bool, true, false}
use Rattle.std.proofs.Common.{refl, sym, ap, subst, ◌∙◌}
use Rattle.std.proofs.lemmas.Slice.Eq.{bytes_eq-Decides}
use Rattle.std.specs.Prelude.{bytes_eq}
use Rattle.teco_hosts.specs.Events.{Event, opened_input, gave, ended, opened_output, wrote, closed, dropped, measured}
use Rattle.teco_hosts.specs.HostFiles.{Telling, Tells, Notes}
use Rattle.teco_hosts.specs.Noting.{NotesJust, event_of_reading}
use Rattle.teco_streams.specs.Streams.{input_behind, input_name, named_as, of_files, output_behind, output_name}
use Rattle.teco_streams.specs.Streams.{with_call, with_notes}
use Rattle.teco_streams.specs.declared.streams.Open.{Open}
use Rattle.teco_streams.specs.declared.streams.Open.TheVariants.{File, Stream}

-- ---- behind others
with-on : (which : Open) (event : Event) (a b : List Event) → with_call which event (a ++ b) ≡ with_call which event a
    ++ b
with-on File event a b = refl
with-on Stream event a b = refl

calls-on : (which : Open) (event : Event) (all a b : List Event) → all ≡ a ++ b
    → with_call which event all ≡ with_call which event a ++ b
calls-on which event all a b is = ap (with_call which event) is ∙ with-on which event a b

pub input-on : (input : Open) (events more : List Event)
    → input_behind input (events ++ more) ≡ input_behind (input_behind input events) more
input-on input [] more = refl
input-on input (opened_input name ∷ events) more = input-on (named_as input_name name) events more
input-on input (gave bytes ∷ events) more = input-on input events more
input-on input (ended ∷ events) more = input-on input events more
input-on input (opened_output name ∷ events) more = input-on input events more
input-on input (wrote bytes ∷ events) more = input-on input events more
input-on input (closed ∷ events) more = input-on input events more
input-on input (dropped ∷ events) more = input-on input events more
input-on input (measured most ∷ events) more = input-on input events more

pub output-on : (output : Open) (events more : List Event)
    → output_behind output (events ++ more) ≡ output_behind (output_behind output events) more
output-on output [] more = refl
output-on output (opened_input name ∷ events) more = output-on output events more
output-on output (gave bytes ∷ events) more = output-on output events more
output-on output (ended ∷ events) more = output-on output events more
output-on output (opened_output name ∷ events) more = output-on (named_as output_name name) events more
output-on output (wrote bytes ∷ events) more = output-on output events more
output-on output (closed ∷ events) more = output-on output events more
output-on output (dropped ∷ events) more = output-on output events more
output-on output (measured most ∷ events) more = output-on output events more

pub files-on : (input output : Open) (events more : List Event)
    → of_files input output (events ++ more) ≡ of_files input output events ++ of_files (input_behind input events)
    (output_behind output events) more
files-on input output [] more = refl
files-on input output (opened_input name ∷ events) more =
    calls-on (named_as input_name name) (opened_input name) _ _ _
    (files-on (named_as input_name name) output events more)
files-on input output (gave bytes ∷ events) more = calls-on input (gave bytes) _ _ _ (files-on input output events more)
files-on input output (ended ∷ events) more = calls-on input ended _ _ _ (files-on input output events more)
files-on input output (opened_output name ∷ events) more =
    calls-on (named_as output_name name) (opened_output name) _ _ _
    (files-on input (named_as output_name name) events more)
files-on input output (wrote bytes ∷ events) more =
    calls-on output (wrote bytes) _ _ _ (files-on input output events more)
files-on input output (closed ∷ events) more = calls-on output closed _ _ _ (files-on input output events more)
files-on input output (dropped ∷ events) more = calls-on output dropped _ _ _ (files-on input output events more)
files-on input output (measured most ∷ events) more =
    calls-on input (measured most) _ _ _ (files-on input output events more)

-- ---- a call
-- what the host of files notes, where these calls go to it
noted-more : (noted now : List Event) (x y : Telling) → x ≡ with_notes noted x → NotesJust now x y
    → y ≡ with_notes (noted ++ now) y
noted-more noted now (Tells f) (Tells g) was is = refl
noted-more noted now (Tells f) (Notes b) was is = absurd is
noted-more noted now (Notes a) (Tells g) was is = absurd is
noted-more noted now (Notes a) (Notes b) was is = let all : a ≡ noted = cc in ap Notes (is ∙ ap (λ l. l ++ now) all)

-- what the struct holds
pub record IsBeneath (input output : Open) (events : List Event) (files : Telling) : Type 0 where
  pub beneath : files ≡ with_notes (of_files File File events) files
  pub reads : input ≡ input_behind File events
  pub writes : output ≡ output_behind File events

pub called : (input output : Open) (events after : List Event) (event : Event) (x y : Telling)
    → IsBeneath input output events x → NotesJust (of_files input output (event ∷ [])) x y
    → after ≡ events ++ event ∷ []
    → IsBeneath (input_behind input (event ∷ [])) (output_behind output (event ∷ [])) after y
called input output events after event x y was now is = rw is (record {
  beneath =
      let more = noted-more (of_files File File events) (of_files input output (event ∷ [])) x y was.beneath now in
      let all : of_files File File (events ++ event ∷ []) ≡ of_files File File events
      ++ of_files input output (event ∷ []) =
      files-on File File events (event ∷ []) ∙ ap (λ l. of_files File File events ++ l)
      (ap (λ i. of_files i (output_behind File events) (event ∷ [])) (sym was.reads)
      ∙ ap (λ o. of_files input o (event ∷ [])) (sym was.writes)) in
      more ∙ ap (λ l. with_notes l y) (sym all);
  reads = ap (λ i. input_behind i (event ∷ [])) was.reads ∙ sym (input-on File events (event ∷ []));
  writes = ap (λ o. output_behind o (event ∷ [])) was.writes ∙ sym (output-on File events (event ∷ []));
})

-- ---- by what is open
just-none : (x : Telling) → NotesJust [] x x
just-none (Tells f) = tt
just-none (Notes a) = sym (append-nil a)

-- a call about one of them goes to the files, or to a stream
just-one : (which : Open) (event : Event) (x y : Telling) → (which ≡ File → NotesJust (event ∷ []) x y)
    → (which ≡ Stream → y ≡ x) → NotesJust (with_call which event []) x y
just-one File event x y goes stays = goes refl
just-one Stream event x y goes stays = rw (stays refl) (just-none x)

-- what is about the output alone
abbrev IsOfOutput : Event → Type 0
IsOfOutput event = (input output : Open) → (of_files input output (event ∷ []) ≡ with_call output event [])
    × (input_behind input (event ∷ []) ≡ input) × (output_behind output (event ∷ []) ≡ output)

pub output-called : (input output : Open) (events after : List Event) (event : Event) (x y : Telling) → IsOfOutput event
    → IsBeneath input output events x → (output ≡ File → NotesJust (event ∷ []) x y) → (output ≡ Stream → y ≡ x)
    → after ≡ events ++ event ∷ [] → IsBeneath input output after y
output-called input output events after event x y of was goes stays is =
    let parts = of input output in
    subst (λ i. IsBeneath i output after y) parts.1
    (subst (λ o. IsBeneath (input_behind input (event ∷ [])) o after y) parts.2
    (called input output events after event x y was
    (subst (λ l. NotesJust l x y) (sym parts.0) (just-one output event x y goes stays)) is))

-- what is about the input alone
abbrev IsOfInput : Event → Type 0
IsOfInput event = (input output : Open) → (of_files input output (event ∷ []) ≡ with_call input event [])
    × (input_behind input (event ∷ []) ≡ input) × (output_behind output (event ∷ []) ≡ output)

pub input-called : (input output : Open) (events after : List Event) (event : Event) (x y : Telling) → IsOfInput event
    → IsBeneath input output events x → (input ≡ File → NotesJust (event ∷ []) x y) → (input ≡ Stream → y ≡ x)
    → after ≡ events ++ event ∷ [] → IsBeneath input output after y
input-called input output events after event x y of was goes stays is =
    let parts = of input output in
    subst (λ i. IsBeneath i output after y) parts.1
    (subst (λ o. IsBeneath (input_behind input (event ∷ [])) o after y) parts.2
    (called input output events after event x y was
    (subst (λ l. NotesJust l x y) (sym parts.0) (just-one input event x y goes stays)) is))

of-reading : (first second : Bool) (bytes : List ℕ) → IsOfInput (cond first (cond second (gave []) ended) (gave bytes))
of-reading true true bytes input output = (refl, refl, refl)
of-reading true false bytes input output = (refl, refl, refl)
of-reading false second bytes input output = (refl, refl, refl)

pub read-of : (n : ℕ) (buffer : List ℕ) → IsOfInput (event_of_reading n buffer)
read-of n buffer = of-reading (n == 0) (length buffer == 0) (take n buffer)

-- what is no stream is a file
pub is_file : (which : Open) → (which ≡ Stream → ⊥) → which ≡ File
is_file File away = refl
is_file Stream away = absurd (away refl)

-- a name that is opened
pub named-file : (stream name : List ℕ) → (name ≡ stream → ⊥) → named_as stream name ≡ File
named-file stream name away = by (bytes_eq name stream) refl where
  by : (t : Bool) → bytes_eq name stream ≡ t → named_as stream name ≡ File
  by true e = absurd (away ((bytes_eq-Decides name stream).0 e))
  by false e = rw e refl

pub named-stream : (stream name : List ℕ) → name ≡ stream → named_as stream name ≡ Stream
named-stream stream name is = rw (is, (bytes_eq-Decides stream stream).1 refl) refl

-- the input is opened, or the output
pub input-opened : (input output which : Open) (events after : List Event) (name : List ℕ) (x y : Telling)
    → named_as input_name name ≡ which → IsBeneath input output events x
    → (which ≡ File → NotesJust (opened_input name ∷ []) x y) → (which ≡ Stream → y ≡ x)
    → after ≡ events ++ opened_input name ∷ [] → IsBeneath which output after y
input-opened input output which events after name x y named was goes stays is =
    subst (λ w. IsBeneath w output after y) named
    (called input output events after (opened_input name) x y was
    (subst (λ w. NotesJust (with_call w (opened_input name) []) x y) (sym named)
    (just-one which (opened_input name) x y goes stays)) is)

pub output-opened : (input output which : Open) (events after : List Event) (name : List ℕ) (x y : Telling)
    → named_as output_name name ≡ which → IsBeneath input output events x
    → (which ≡ File → NotesJust (opened_output name ∷ []) x y) → (which ≡ Stream → y ≡ x)
    → after ≡ events ++ opened_output name ∷ [] → IsBeneath input which after y
output-opened input output which events after name x y named was goes stays is =
    subst (λ w. IsBeneath input w after y) named
    (called input output events after (opened_output name) x y was
    (subst (λ w. NotesJust (with_call w (opened_output name) []) x y) (sym named)
    (just-one which (opened_output name) x y goes stays)) is)
