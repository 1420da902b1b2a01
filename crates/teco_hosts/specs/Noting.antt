-- What hosts note that cannot tell their files: which call notes what, and in which order it was.
use Rattle.std.specs.Prelude.{ℕ, ◌≡◌, ◌==◌, ⊤, List, [], ◌∷◌, ◌++◌, length, take, cond, Bool, true, false, not}
use Rattle.std.specs.Prelude.{Option, Some, None, Result, Ok, Err}
use Rattle.std.specs.List.{AllByRecursion}
use Rattle.teco_hosts.specs.Events.{Event, IsOfBytes, opened_input, gave, ended, opened_output, wrote, closed}
use Rattle.teco_hosts.specs.Events.{dropped, measured}
use Rattle.teco_hosts.specs.HostFiles.{Telling, Tells, Notes}

-- What a call notes, by its answer. Of one that opens an input:
abbrev pub noted_open_in : {E : Type 0} → List ℕ → Result (Unit {0}) E → List Event
noted_open_in name (Ok _) = opened_input name ∷ []
noted_open_in name (Err _) = []

-- of one that read so many bytes into a buffer: none, where there is room, at the end of the input
abbrev pub event_of_reading : ℕ → List ℕ → Event
event_of_reading n buffer = cond (n == 0) (cond (length buffer == 0) (gave []) ended) (gave (take n buffer))

abbrev pub noted_read : {E : Type 0} → List ℕ → Result ℕ E → List Event
noted_read buffer (Ok n) = event_of_reading n buffer ∷ []
noted_read buffer (Err _) = []

-- of one that opens an output
abbrev pub noted_open_out : {E : Type 0} → List ℕ → Result (Unit {0}) E → List Event
noted_open_out name (Ok _) = opened_output name ∷ []
noted_open_out name (Err _) = []

-- of one that writes
abbrev pub noted_write : {E : Type 0} → List ℕ → Result ℕ E → List Event
noted_write bytes (Ok n) = wrote (take n bytes) ∷ []
noted_write bytes (Err _) = []

-- of one that gives the output its name: a failure drops it
abbrev pub noted_close_out : {E : Type 0} → Result (Unit {0}) E → List Event
noted_close_out (Ok _) = closed ∷ []
noted_close_out (Err _) = dropped ∷ []

-- of one that tells how much is left of the input
abbrev pub noted_left : Option ℕ → List Event
noted_left None = []
noted_left (Some most) = measured most ∷ []

-- where calls are noted, just these events were
abbrev pub NotesJust : List Event → Telling → Telling → Type 0
NotesJust events (Tells files) (Tells left) = ⊤
NotesJust events (Tells files) (Notes new) = ⊥
NotesJust events (Notes old) (Tells left) = ⊥
NotesJust events (Notes old) (Notes new) = new ≡ old ++ events

-- which files were opened, and which outputs got their names or were dropped, and what was measured, in turn
abbrev pub openings : List Event → List Event
openings [] = []
openings (opened_input name ∷ events) = opened_input name ∷ openings events
openings (gave bytes ∷ events) = openings events
openings (ended ∷ events) = openings events
openings (opened_output name ∷ events) = opened_output name ∷ openings events
openings (wrote bytes ∷ events) = openings events
openings (closed ∷ events) = closed ∷ openings events
openings (dropped ∷ events) = dropped ∷ openings events
openings (measured most ∷ events) = measured most ∷ openings events

-- Nothing is read behind the end of an input. The first tells whether one is at an end before these, the last whether
-- one is behind them, if only since no more is to be read.
abbrev pub EndsAtEnd : Bool → List Event → Bool → Type 0
EndsAtEnd end [] end' = end ≡ true → end' ≡ true
EndsAtEnd end (opened_input name ∷ events) end' = EndsAtEnd false events end'
EndsAtEnd end (gave bytes ∷ events) end' = (end ≡ false) × EndsAtEnd false events end'
EndsAtEnd end (ended ∷ events) end' = (end ≡ false) × EndsAtEnd true events end'
EndsAtEnd end (opened_output name ∷ events) end' = EndsAtEnd end events end'
EndsAtEnd end (wrote bytes ∷ events) end' = EndsAtEnd end events end'
EndsAtEnd end (closed ∷ events) end' = EndsAtEnd end events end'
EndsAtEnd end (dropped ∷ events) end' = EndsAtEnd end events end'
EndsAtEnd end (measured most ∷ events) end' = EndsAtEnd end events end'

-- what was noted meanwhile: these openings in turn, bytes, and nothing behind the end of an input
pub record IsNoted (opened : List Event) (end end' : Bool) (old new : List Event) : Type 0 where
  pub meanwhile : List Event
  pub noted : new ≡ old ++ meanwhile
  pub openings : openings meanwhile ≡ opened
  pub order : EndsAtEnd end meanwhile end'
  pub bytes : AllByRecursion IsOfBytes meanwhile

-- Where calls are noted, these files were opened, named, dropped and measured in turn and no others, and nothing was
-- read behind the end of an input, at which it was and is as these tell.
abbrev pub Touches : List Event → Bool → Bool → Telling → Telling → Type 0
Touches opened end end' (Tells files) (Tells left) = ⊤
Touches opened end end' (Tells files) (Notes new) = ⊥
Touches opened end end' (Notes old) (Tells left) = ⊥
Touches opened end end' (Notes old) (Notes new) = IsNoted opened end end' old new

-- Is an input at its end behind a call that answers whether there is more of it? A fault tells no end.
abbrev pub has_ended : {E : Type 0} → Result Bool E → Bool
has_ended (Ok more) = not more
has_ended (Err _) = false

-- behind one that reads these bytes, none at the end
abbrev pub has_ended_behind : {E : Type 0} → Result (Unit {0}) E → List ℕ → Bool
has_ended_behind (Ok _) bytes = length bytes == 0
has_ended_behind (Err _) bytes = false
