-- Which files a command opens, names and drops, where its host notes its calls.
use Rattle.std.specs.Prelude.{ℕ, List, [], ◌∷◌, Option, None, Some, Result, Ok, Err}
use Rattle.teco_model.specs.declared.kind.File.{File}
use Rattle.teco_model.specs.declared.kind.File.TheVariants as file
use Rattle.teco_hosts.specs.Events.{Event, closed, dropped, opened_input, opened_output}
use Rattle.teco_hosts.specs.declared.fault.Fault.{Fault}
use Rattle.teco_filing.specs.declared.halt.Halt.{Halt}
use Rattle.teco_filing.specs.declared.halt.Halt.TheVariants.{Code, Memory, Host}

-- The events of a command that is done, where an output of a name is open, or none. ER and EW open a file.
abbrev pub touched_by : File → List ℕ → Option (List ℕ) → List Event
touched_by file.Read name output = opened_input name ∷ []
touched_by file.Write name output = opened_output name ∷ []
-- EF and EC give the output its name
touched_by file.Close text output = closed ∷ []
touched_by file.Copy text output = closed ∷ []
-- EK drops it, if one is open, and EX gives it its name
touched_by file.Abandon text None = []
touched_by file.Abandon text (Some name) = dropped ∷ []
touched_by file.Exit text None = []
touched_by file.Exit text (Some name) = closed ∷ []

-- where the host fails, an output that was open is dropped
abbrev pub touched_failing : File → List Event
touched_failing file.Read = []
touched_failing file.Write = []
touched_failing f = dropped ∷ []

-- a command that is refused, or wants memory, calls no host
abbrev pub touched_in : {X : Type 0} → File → List ℕ → Option (List ℕ) → Result X Halt → List Event
touched_in f name output (Ok done) = touched_by f name output
touched_in f name output (Err (Code c)) = []
touched_in f name output (Err Memory) = []
touched_in f name output (Err (Host fault)) = touched_failing f

-- an output that is written gets its name; with a fault it is dropped
abbrev pub touched_by_writing : Result (Unit {0}) Fault → List Event
touched_by_writing (Ok done) = closed ∷ []
touched_by_writing (Err fault) = dropped ∷ []
