-- Which files the steps of a run open, name and drop, where its host notes its calls.
use Rattle.std.specs.Prelude.{ℕ, zero, suc, ◌≡◌, ⊤, List, [], ◌∷◌, ◌++◌, Option, Some, None, Result, Ok, Err}
use Rattle.std.specs.Prelude.{option_map}
use Rattle.std.specs.List.{AllByRecursion}
use Rattle.teco_base.specs.declared.code.Code as base
use Rattle.teco_model.specs.Element.{Element, element_at}
use Rattle.teco_model.specs.Files.{Output}
use Rattle.teco_model.specs.Run.{Reaches, run}
use Rattle.teco_model.specs.State.{World, Frame, Frames, State, Outcome, Next}
use Rattle.teco_model.specs.declared.kind.File.{File}
use Rattle.teco_model.specs.declared.kind.Kind.{Kind}
use Rattle.teco_model.specs.declared.kind.Kind.TheVariants as kind
use Rattle.teco_model.specs.declared.stop.Stop.{Stop}
use Rattle.teco_model.specs.declared.stop.Stop.TheVariants as stop
use Rattle.teco_hosts.specs.Events.{Event, measured}
use Rattle.teco_hosts.specs.HostFiles.{Telling}
use Rattle.teco_hosts.specs.Noting.{Touches}
use Rattle.teco_filing.specs.Touched.{touched_in}
use Rattle.teco_filing.specs.declared.halt.Halt.{Halt}
use Rattle.teco_filing.specs.declared.halt.Halt.TheVariants as halt
use Rattle.teco_run.specs.Holdings.{Holdings, Joined}
use Rattle.teco_run.specs.declared.execution.Progress.{Progress}
use Rattle.teco_run.specs.declared.execution.Progress.TheVariants as progress
use Rattle.teco_run.specs.declared.site.Stopped.{Stopped}

-- between what a machine holds before and after
abbrev pub TouchesBetween : List Event → Holdings → Holdings → Telling → Telling → Type 0
TouchesBetween touched old new = Touches touched old.held.end new.held.end

-- a command of files
abbrev pub file_of : Kind → Option File
file_of (kind.File f) = Some f
file_of k = None

-- an element, by its text and the name of the output that is open: only a command of files touches any
abbrev pub touched_by_command : {X : Type 0} → Option File → List ℕ → Option (List ℕ) → Result X Halt → List Event
touched_by_command (Some f) text output result = touched_in f text output result
touched_by_command None text output result = []

abbrev pub touched_by_element : {X : Type 0} → Kind → List ℕ → Option (List ℕ) → Result X Halt → List Event
touched_by_element k = touched_by_command (file_of k)

-- a step, by what is read at its place
abbrev pub touched_by_read : {X : Type 0} → Result (Option Element) base.Code → Option (List ℕ) → Result X Halt
    → List Event
touched_by_read (Ok (Some e)) output result = touched_by_element e.kind e.text output result
touched_by_read (Ok None) output result = []
touched_by_read (Err c) output result = []

abbrev pub touched_by_step : {X : Type 0} → Frame → Option (List ℕ) → Result X Halt → List Event
touched_by_step frame output result = touched_by_read (element_at frame.text frame.place) output result

-- why a step is not done, by what it came to
abbrev pub halt_by : Progress → Result (Unit {0}) Halt
halt_by (progress.Error c) = Err (halt.Code c)
halt_by progress.Memory = Err halt.Memory
halt_by (progress.HostFault fault) = Err (halt.Host fault)
halt_by done = Ok tt

-- whatever output is open, a step that is done here touches no file
abbrev pub IsQuiet : Frames → Type 0
IsQuiet frames = (output : Option (List ℕ)) → touched_by_step {X = Unit {0}} frames.running output (Ok (tt {0})) ≡ []

-- the name of the output that is open
abbrev pub output_named : World → Option (List ℕ)
output_named world = option_map (λ (output : Output). output.name) world.files.output

-- a step that is done from a state, or that the host fails in
abbrev pub touched_from : {X : Type 0} → Outcome → Result X Halt → List Event
touched_from (Next s) result = touched_by_step s.frames.running (output_named s.world) result
touched_from other result = []

-- so many steps that are done, from a state on
unfoldable pub touched_in_steps : ℕ → State → List Event
touched_in_steps zero s = []
touched_in_steps (suc n) s = touched_in_steps n s ++ touched_from (run n s) (Ok (tt {0}))

-- the step that is why a run stops
abbrev pub touched_by_last : Stop → Outcome → List Event
touched_by_last (stop.Exit n) last = touched_from last (Ok (tt {0}))
touched_by_last (stop.HostFault fault) last = touched_from {X = Unit {0}} last (Err (halt.Host fault))
touched_by_last other last = []

-- a run, from its start to where it stopped
abbrev pub touched_in_run : Stopped → State → List Event
touched_in_run stopped s = touched_in_steps stopped.steps s ++ touched_by_last stopped.stop (run stopped.steps s)

-- from a state the definition's steps come to one that touches a file so, if it is done, or as the host fails
pub record ComesTo (event : Event) (s : State) : Type 0 where
  pub steps : ℕ
  pub there : State
  pub reached : Reaches steps s there
  pub result : Result (Unit {0}) Halt
  pub touches : touched_by_step there.frames.running (output_named there.world) result ≡ event ∷ []

-- A file was touched so, behind these that were touched earlier, as the definition's steps do, whatever files there
-- were that fitted what was noted until then.
pub record IsDue (from : World → State) (earlier : List Event) (event : Event) (later : List Event)
    (old new : Holdings) (before after : Telling) : Type 0 where
  pub mid : Holdings
  pub until : Telling
  pub notes : TouchesBetween earlier old mid before until
  pub others : TouchesBetween (event ∷ later) mid new until after
  pub comes : Joined (λ was is. ComesTo event (from was)) old mid before until

-- each of these was
abbrev pub AreDue : (World → State) → List Event → Holdings → Holdings → Telling → Telling → Type 0
AreDue from touched old new before after =
    (earlier : List Event) (event : Event) (later : List Event) → touched ≡ earlier ++ event ∷ later
    → IsDue from earlier event later old new before after

-- not the measure of an input
abbrev pub IsUnmeasured : Event → Type 0
IsUnmeasured (measured most) = ⊥
IsUnmeasured other = ⊤

-- Where the host notes its calls, just those files were opened, named and dropped, in turn, that the definition's
-- steps from a state touch, whatever files there are, each by what was noted before it; and nothing was read behind the
-- end of an input, nor was any measured.
pub record TouchesBySteps (from : World → State) (defined : State → List Event) (old new : Holdings)
    (before after : Telling) : Type 0 where
  pub touched : List Event
  pub notes : TouchesBetween touched old new before after
  pub unmeasured : AllByRecursion IsUnmeasured touched
  pub by_definition : Joined (λ was is. touched ≡ defined (from was)) old new before after
  pub due : AreDue from touched old new before after
