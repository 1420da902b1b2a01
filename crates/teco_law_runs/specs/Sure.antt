-- What a run that comes to its end may answer, whatever stops it.
use Rattle.std.specs.Prelude.{◌≡◌, ℕ, ◌≤◌, ⊤}
use Rattle.teco_model.specs.declared.stop.Stop.{Stop}
use Rattle.teco_model.specs.declared.stop.Stop.TheVariants as stop
use Rattle.teco_model.specs.Run.{Ends, IsSure, Stops}
use Rattle.teco_model.specs.State.{World, State}
use Rattle.teco_law_runs.specs.Ending.{EndsWithin}

-- it comes to this end after so many steps; or want of memory stops it, or the host
abbrev pub ComesTo : ℕ → World → Stop → World → Type 0
ComesTo n end (stop.Ended m) new = (m ≡ n) × (new ≡ end)
ComesTo n end (stop.Exit m) new = ⊥
ComesTo n end (stop.Error c) new = ⊥
ComesTo n end stop.Limit new = ⊥
ComesTo n end stop.Memory new = ⊤
ComesTo n end (stop.HostFault fault) new = ⊤

-- a run has one end
abbrev pub RunsEndOnce : Type 0
RunsEndOnce =
    (s : State) (n limit : ℕ) (end : World) (answer : Stop) (new : World)
    → Ends s n end → n ≤ limit → Stops s limit answer new → ComesTo n end answer new

-- within so many steps
abbrev pub RunsAreSure : Type 0
RunsAreSure =
    (s : State) (most limit : ℕ) (answer : Stop) (new : World)
    → EndsWithin s most → most ≤ limit → Stops s limit answer new → IsSure most answer
