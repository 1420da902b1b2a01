-- Notes that the calls of a host can have made: some files of bytes fit them.
use Rattle.std.specs.Prelude.{ℕ, ◌≡◌, ◌≢◌, ◌≤◌, ⊤, List, [], ◌∷◌, ◌++◌, length, Bool, Option, IfSome, option_map}
use Rattle.std.specs.List.{AllByRecursion}
use Rattle.teco_hosts.specs.Events.{Event, Happened, IsOfBytes, opened_input, gave, ended, opened_output, wrote}
use Rattle.teco_hosts.specs.Events.{closed, dropped, measured}
use Rattle.teco_hosts.specs.HostFiles.{HostFiles, AreOfBytes, Telling, Tells, Notes}
use Rattle.teco_hosts.specs.Noting.{EndsAtEnd}

-- no input of this name is opened in these
abbrev pub IsUnopened : List ℕ → List Event → Type 0
IsUnopened name [] = ⊤
IsUnopened name (opened_input other ∷ events) = (name ≢ other) × IsUnopened name events
IsUnopened name (gave bytes ∷ events) = IsUnopened name events
IsUnopened name (ended ∷ events) = IsUnopened name events
IsUnopened name (opened_output other ∷ events) = IsUnopened name events
IsUnopened name (wrote bytes ∷ events) = IsUnopened name events
IsUnopened name (closed ∷ events) = IsUnopened name events
IsUnopened name (dropped ∷ events) = IsUnopened name events
IsUnopened name (measured most ∷ events) = IsUnopened name events

-- no input is opened that was opened before, as an input or as an output
abbrev pub OpensAnew : List Event → Type 0
OpensAnew [] = ⊤
OpensAnew (opened_input name ∷ events) = IsUnopened name events × OpensAnew events
OpensAnew (gave bytes ∷ events) = OpensAnew events
OpensAnew (ended ∷ events) = OpensAnew events
OpensAnew (opened_output name ∷ events) = IsUnopened name events × OpensAnew events
OpensAnew (wrote bytes ∷ events) = OpensAnew events
OpensAnew (closed ∷ events) = OpensAnew events
OpensAnew (dropped ∷ events) = OpensAnew events
OpensAnew (measured most ∷ events) = OpensAnew events

-- what is given of the input that is open
abbrev pub given_next : List Event → List ℕ
given_next [] = []
given_next (opened_input name ∷ events) = []
given_next (gave bytes ∷ events) = bytes ++ given_next events
given_next (ended ∷ events) = given_next events
given_next (opened_output name ∷ events) = given_next events
given_next (wrote bytes ∷ events) = given_next events
given_next (closed ∷ events) = given_next events
given_next (dropped ∷ events) = given_next events
given_next (measured most ∷ events) = given_next events

-- no more is given of an input than was measured
abbrev pub GivesMeasured : List Event → Type 0
GivesMeasured [] = ⊤
GivesMeasured (opened_input name ∷ events) = GivesMeasured events
GivesMeasured (gave bytes ∷ events) = GivesMeasured events
GivesMeasured (ended ∷ events) = GivesMeasured events
GivesMeasured (opened_output name ∷ events) = GivesMeasured events
GivesMeasured (wrote bytes ∷ events) = GivesMeasured events
GivesMeasured (closed ∷ events) = GivesMeasured events
GivesMeasured (dropped ∷ events) = GivesMeasured events
GivesMeasured (measured most ∷ events) = (length (given_next events) ≤ most) × GivesMeasured events

-- some files of bytes fit these, of which an output of this name is open before them
pub record AreFitted (name : Option (List ℕ)) (events : List Event) : Type 0 where
  pub files : HostFiles
  pub left : HostFiles
  pub bytes : AreOfBytes files
  pub output : name ≡ option_map (λ output. output.name) files.output
  pub happened : Happened events files left

-- Notes of bytes are fitted by some files, where nothing is read behind the end of an input, no more of it than was
-- measured, and no input is opened that was opened before.
abbrev pub NotesFit : Type 0
NotesFit =
    (output : Option (List ℕ)) (end end' : Bool) (events : List Event) → AllByRecursion IsOfBytes events
    → EndsAtEnd end events end' → GivesMeasured events → OpensAnew events
    → IfSome output (λ name. IsUnopened name events)
    → AreFitted output events

-- Where this holds of what was noted meanwhile, some files of bytes fit it, with an output of this name open before, or
-- none.
pub record AreNotedWhere (Holds : List Event → Type 0) (output : Option (List ℕ)) (old new : List Event) : Type 0 where
  pub meanwhile : List Event
  pub noted : new ≡ old ++ meanwhile
  pub fitted : Holds meanwhile → AreFitted output meanwhile

-- of hosts that note
abbrev pub FitWhere : (List Event → Type 0) → Option (List ℕ) → Telling → Telling → Type 0
FitWhere Holds output (Tells files) (Tells left) = ⊤
FitWhere Holds output (Tells files) (Notes new) = ⊥
FitWhere Holds output (Notes old) (Tells left) = ⊥
FitWhere Holds output (Notes old) (Notes new) = AreNotedWhere Holds output old new

-- some files fit it in any case
abbrev pub SomeFit : Option (List ℕ) → Telling → Telling → Type 0
SomeFit = FitWhere (λ events. ⊤)

-- no input is opened that was opened before, nor the output that is open
pub record AreOpenedAnew (output : Option (List ℕ)) (events : List Event) : Type 0 where
  pub inputs : OpensAnew events
  pub own : IfSome output (λ name. IsUnopened name events)
