-- Which calls of a host of files and streams go to its host of files.
use Rattle.std.specs.Prelude.{ℕ, ◌≡◌, List, [], ◌∷◌, bytes_eq, codes, if◌then◌else◌}
use Rattle.teco_hosts.specs.Events.{Event, opened_input, gave, ended, opened_output, wrote, closed, dropped, measured}
use Rattle.teco_hosts.specs.HostFiles.{Telling, Tells, Notes}
use Rattle.teco_streams.specs.declared.streams.Open.{Open}
use Rattle.teco_streams.specs.declared.streams.Open.TheVariants.{File, Stream}

-- how many bytes of an input were given, where that is a file or a stream
abbrev pub given_of : Open → ℕ → ℕ → ℕ
given_of File of_file of_stream = of_file
given_of Stream of_file of_stream = of_stream

-- what names the streams
abbrev pub input_name : List ℕ
input_name = 0 ∷ codes "input"

abbrev pub output_name : List ℕ
output_name = 0 ∷ codes "output"

-- whether a name is that of a stream
abbrev pub named_as : List ℕ → List ℕ → Open
named_as stream name = if bytes_eq name stream then Stream else File

-- what the input and the output are behind some calls
abbrev pub input_behind : Open → List Event → Open
input_behind input [] = input
input_behind input (opened_input name ∷ events) = input_behind (named_as input_name name) events
input_behind input (gave bytes ∷ events) = input_behind input events
input_behind input (ended ∷ events) = input_behind input events
input_behind input (opened_output name ∷ events) = input_behind input events
input_behind input (wrote bytes ∷ events) = input_behind input events
input_behind input (closed ∷ events) = input_behind input events
input_behind input (dropped ∷ events) = input_behind input events
input_behind input (measured most ∷ events) = input_behind input events

abbrev pub output_behind : Open → List Event → Open
output_behind output [] = output
output_behind output (opened_input name ∷ events) = output_behind output events
output_behind output (gave bytes ∷ events) = output_behind output events
output_behind output (ended ∷ events) = output_behind output events
output_behind output (opened_output name ∷ events) = output_behind (named_as output_name name) events
output_behind output (wrote bytes ∷ events) = output_behind output events
output_behind output (closed ∷ events) = output_behind output events
output_behind output (dropped ∷ events) = output_behind output events
output_behind output (measured most ∷ events) = output_behind output events

-- a call goes to the files where what it is about is one
abbrev pub with_call : Open → Event → List Event → List Event
with_call File event events = event ∷ events
with_call Stream event events = events

-- the calls that go to the files, where the input and the output are files or streams before them
abbrev pub of_files : Open → Open → List Event → List Event
of_files input output [] = []
of_files input output (opened_input name ∷ events) =
    with_call (named_as input_name name) (opened_input name) (of_files (named_as input_name name) output events)
of_files input output (gave bytes ∷ events) = with_call input (gave bytes) (of_files input output events)
of_files input output (ended ∷ events) = with_call input ended (of_files input output events)
of_files input output (opened_output name ∷ events) =
    with_call (named_as output_name name) (opened_output name) (of_files input (named_as output_name name) events)
of_files input output (wrote bytes ∷ events) = with_call output (wrote bytes) (of_files input output events)
of_files input output (closed ∷ events) = with_call output closed (of_files input output events)
of_files input output (dropped ∷ events) = with_call output dropped (of_files input output events)
of_files input output (measured most ∷ events) = with_call input (measured most) (of_files input output events)

-- a host that notes its calls has noted these
abbrev pub with_notes : List Event → Telling → Telling
with_notes events (Tells files) = Tells files
with_notes events (Notes noted) = Notes events

-- nothing is noted yet
abbrev pub IsFresh : Telling → Type 0
IsFresh files = files ≡ with_notes [] files

-- what one notes, and of that what its host of files notes
abbrev pub PassesOn : Telling → Telling → Type 0
PassesOn (Tells all) files = ⊥
PassesOn (Notes events) files = files ≡ with_notes (of_files File File events) files
