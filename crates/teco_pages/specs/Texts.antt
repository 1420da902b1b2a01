-- The text of a file that is edited, and the one that the edit makes of it, by what its host notes.
use Rattle.std.specs.Prelude.{◌≡◌, ◌≢◌, ℕ, List, [], ◌∷◌, ◌++◌, Option}
use Rattle.std.specs.Option.{ForSome}
use Rattle.teco_hosts.specs.Events.{Event, opened_input, gave, ended, opened_output, wrote, closed, dropped, measured}
use Rattle.teco_hosts.specs.HostFiles.{Telling, Tells, Notes}
use Rattle.teco_pages.specs.declared.texts.Texts.{Texts}

-- what the input gave that was opened last, and what was written to the output that was opened last
pub record EditTexts : Type 0 where
  pub old : List ℕ
  pub new : List ℕ

-- what a call makes of them
abbrev pub with_event : EditTexts → Event → EditTexts
with_event texts (opened_input name) = record texts { old = [] }
with_event texts (gave bytes) = record texts { old = texts.old ++ bytes }
with_event texts ended = texts
with_event texts (opened_output name) = record texts { new = [] }
with_event texts (wrote bytes) = record texts { new = texts.new ++ bytes }
with_event texts closed = texts
with_event texts dropped = texts
with_event texts (measured most) = texts

abbrev pub texts_from : EditTexts → List Event → EditTexts
texts_from texts [] = texts
texts_from texts (event ∷ events) = texts_from (with_event texts event) events

-- by all that was noted
abbrev pub texts_of : List Event → EditTexts
texts_of events = texts_from (record { old = []; new = [] }) events

-- by what a host tells: none, where it does not note its calls
abbrev pub noted_texts : Telling → EditTexts
noted_texts (Tells files) = record { old = []; new = [] }
noted_texts (Notes events) = texts_of events

-- both are not the same
abbrev pub Differ : EditTexts → Type 0
Differ texts = texts.new ≢ texts.old

-- where the texts are kept, they are those of what was noted
abbrev pub edit_texts : Texts → EditTexts
edit_texts texts = record { old = texts.old.items; new = texts.new.items }

abbrev pub IsTextOf : List Event → Texts → Type 0
IsTextOf events texts = (texts.old.items ≡ (texts_of events).old) × (texts.new.items ≡ (texts_of events).new)

abbrev pub AreNoted : List Event → Option Texts → Type 0
AreNoted events kept = ForSome kept (λ texts. IsTextOf events texts)

-- behind a call that notes this they are so still
abbrev pub Follow : Event → Option Texts → Option Texts → Type 0
Follow event before after = (events : List Event) → AreNoted events before → AreNoted (events ++ event ∷ []) after
