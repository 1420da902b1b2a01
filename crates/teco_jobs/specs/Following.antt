-- Steps of the definition that are done one by one, and listed.
use Rattle.std.specs.Prelude.{ℕ, ◌+◌, ◌≡◌, ⊤, Option, Some, None, Result, Ok, Err}
use Rattle.teco_jobs.specs.declared.following.Followed.{Followed}
use Rattle.teco_model.specs.Session.{without_typed}
use Rattle.teco_model.specs.State.{World, State, Next}
use Rattle.teco_model.specs.Step.{step}
use Rattle.teco_model.specs.declared.stop.Stop.{Stop}
use Rattle.teco_model.specs.declared.stop.Stop.TheVariants as stop
use Rattle.teco_hosts.specs.HostFiles.{Telling}
use Rattle.teco_run.specs.Executions.{Execution, state_at}
use Rattle.teco_run.specs.Holdings.{Holdings, Joined}
use Rattle.teco_run.specs.Stopped.{IsWhy}
use Rattle.teco_run.specs.declared.execution.Progress.{Progress}
use Rattle.teco_run.specs.declared.execution.Progress.TheVariants as progress
use Rattle.teco_run.specs.declared.site.Stopped.{Stopped}
use Rattle.teco_tools.specs.declared.fault.ToolFault.{ToolFault}

-- what a run has come to behind so many steps, by the next; none where that is done
abbrev pub stop_behind : Progress → ℕ → Option Stop
stop_behind progress.On steps = None
stop_behind progress.Ended steps = Some (stop.Ended steps)
stop_behind progress.Exit steps = Some (stop.Exit steps)
stop_behind (progress.Error c) steps = Some (stop.Error c)
stop_behind progress.Memory steps = Some stop.Memory
stop_behind (progress.HostFault fault) steps = Some (stop.HostFault fault)

-- the bytes that were typed are taken
abbrev pub untyped : State → State
untyped s = record s { world = without_typed s.world }

-- a step of the definition is done, and what it typed is listed
pub record ListsStep (s t : State) : Type 0 where
  pub done : State
  pub steps : step s ≡ Next done
  pub listed : t ≡ untyped done

-- so many are
pub data Lists : ℕ → State → State → Type 0 where
  none : (s : State) → Lists 0 s s
  one_more : (n : ℕ) (s t u : State) → Lists n s t → ListsStep t u → Lists (n + 1) s u

-- One step is listed, or it is why the run stops.
abbrev pub Advances : Execution → Execution → Holdings → Holdings → Telling → Telling → Result (Option Stop) ToolFault
    → Type 0
Advances from to old new before after (Ok None) =
    Joined (λ was is. ListsStep (state_at from was) (state_at to is)) old new before after
Advances from to old new before after (Ok (Some stop)) =
    Joined (λ was is. IsWhy (state_at from was) stop is) old new before after
Advances from to old new before after (Err fault) = ⊤

-- so many steps are listed, and the next is why the run stops
pub record ListsAll (from : State) (steps : ℕ) (stop : Stop) (new : World) : Type 0 where
  pub last : State
  pub lists : Lists steps from last
  pub why : IsWhy last stop new

-- The steps of a run are listed up to its end, or the most; from a state by what stays to another.
abbrev pub FollowsTo : ℕ → (World → State) → (World → State) → Holdings → Holdings → Telling → Telling → ℕ
    → Option Stopped → Type 0
FollowsTo most from to old new before after steps None =
    (steps ≡ most) × Joined (λ was is. Lists most (from was) (to is)) old new before after
FollowsTo most from to old new before after steps (Some stopped) =
    Joined (λ was is. ListsAll (from was) steps stopped.stop is) old new before after

abbrev pub Follows : ℕ → (World → State) → (World → State) → Holdings → Holdings → Telling → Telling
    → Result Followed ToolFault → Type 0
Follows most from to old new before after (Ok followed) =
    FollowsTo most from to old new before after followed.steps followed.stopped
Follows most from to old new before after (Err fault) = ⊤
