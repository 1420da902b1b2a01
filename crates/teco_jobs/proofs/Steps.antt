-- Steps that are listed one after another.
use Rattle.std.proofs.Common.{◌≡◌, ◌+◌, ◌⊎◌, ℕ, inl, inr, refl, sym, subst, List, [], ap, Option, Some, None, Result}
use Rattle.std.proofs.Common.{Ok, Err, IsErr}
use Rattle.teco_jobs.specs.Following.{Follows, FollowsTo, Lists, ListsAll, ListsStep, none, one_more}
use Rattle.teco_jobs.specs.Traces.{FollowsMacro, FollowsOnce, FollowsPages, Traces, TracesLibrary, TracesLoaded}
use Rattle.teco_jobs.specs.Traces.{with_library}
use Rattle.teco_jobs.specs.declared.jobs.Task.{Task}
use Rattle.teco_jobs.specs.declared.following.Followed.{Followed}
use Rattle.teco_apply.specs.Sure.{call_text}
use Rattle.teco_options.specs.declared.editing.PageChoice.TheVariants.{First, Each, Whole}
use Rattle.teco_library.specs.Library.{LibraryFile}
use Rattle.teco_model.specs.Session.{without_typed}
use Rattle.teco_model.specs.State.{World, State, Next, start}
use Rattle.teco_model.specs.Step.{step}
use Rattle.teco_model.specs.declared.stop.Stop.{Stop}
use Rattle.teco_hosts.specs.HostFiles.{Telling}
use Rattle.teco_run.proofs.Together.{Joined-alone, Joined-on, Joined-stays, Joined-then}
use Rattle.teco_run.specs.Executions.{Execution, state_at}
use Rattle.teco_run.specs.Holdings.{Holdings, Joined}
use Rattle.teco_run.specs.Stopped.{IsWhy}
use Rattle.teco_run.specs.declared.site.Stopped.{Stopped}
use Rattle.teco_tools.specs.declared.fault.ToolFault.{ToolFault}
use Rattle.teco_console.specs.declared.outcome.Outcome.{Outcome}
use Rattle.teco_console.specs.declared.outcome.Outcome.TheVariants.{Done, Coded, Refused}

-- what a machine holds when the typed bytes are taken
abbrev pub held_untyped : Holdings → Holdings
held_untyped desk = record desk { kept = record desk.kept { typed = [] } }

-- the typed bytes are taken
pub takes : (desk : Holdings) (f : Telling)
    → Joined (λ was is. is ≡ without_typed was) desk (held_untyped desk) f f
takes desk f = Joined-alone (λ (was : World) (is : World). is ≡ without_typed was) desk.kept
    (record desk.kept { typed = [] }) desk.held f desk (held_untyped desk) refl refl (λ files. refl)

-- a step that is done is listed
pub listed : (from to : Execution) (a b : Holdings) (f g : Telling)
    → Joined (λ was is. step (state_at from was) ≡ Next (state_at to is)) a b f g
    → Joined (λ was is. ListsStep (state_at from was) (state_at to is)) a (held_untyped b) f g
listed from to a b f g done =
    Joined-then (λ (was : World) (mid : World). step (state_at from was) ≡ Next (state_at to mid))
    (λ (mid : World) (is : World). is ≡ without_typed mid)
    (λ (was : World) (is : World). ListsStep (state_at from was) (state_at to is))
    a b (held_untyped b) f g g
    (λ (was : World) (mid : World) (is : World) steps taken. record {
      done = state_at to mid;
      steps = steps;
      listed = ap (state_at to) taken;
    })
    done (takes b g)

-- none yet
pub lists_none : (from : Execution) (a : Holdings) (f : Telling)
    → Joined (λ was is. Lists 0 (state_at from was) (state_at from is)) a a f f
lists_none from a f = Joined-stays (λ (was : World) (is : World). Lists 0 (state_at from was) (state_at from is)) a f
    (λ world. none (state_at from world))

-- one more
pub lists_more : (n : ℕ) (from mid to : Execution) (a b c : Holdings) (f g h : Telling)
    → Joined (λ was is. Lists n (state_at from was) (state_at mid is)) a b f g
    → Joined (λ was is. ListsStep (state_at mid was) (state_at to is)) b c g h
    → Joined (λ was is. Lists (n + 1) (state_at from was) (state_at to is)) a c f h
lists_more n from mid to a b c f g h =
    Joined-then (λ (was : World) (is : World). Lists n (state_at from was) (state_at mid is))
    (λ (was : World) (is : World). ListsStep (state_at mid was) (state_at to is))
    (λ (was : World) (is : World). Lists (n + 1) (state_at from was) (state_at to is))
    a b c f g h
    (λ (was : World) (is : World) (then : World) lists next.
    one_more n (state_at from was) (state_at mid is) (state_at to then) lists next)

-- and the next is why the run stops
pub lists_all : (n : ℕ) (stop : Stop) (from mid : Execution) (a b c : Holdings) (f g h : Telling)
    → Joined (λ was is. Lists n (state_at from was) (state_at mid is)) a b f g
    → Joined (λ was is. IsWhy (state_at mid was) stop is) b c g h
    → Joined (λ was is. ListsAll (state_at from was) n stop is) a c f h
lists_all n stop from mid a b c f g h =
    Joined-then (λ (was : World) (is : World). Lists n (state_at from was) (state_at mid is))
    (λ (was : World) (is : World). IsWhy (state_at mid was) stop is)
    (λ (was : World) (is : World). ListsAll (state_at from was) n stop is)
    a b c f g h
    (λ (was : World) (is : World) (then : World) lists why. record {
      last = state_at mid is;
      lists = lists;
      why = why;
    })

-- the steps of a run from its start
follows_to_from : (most : ℕ) (from : Execution) (begin : World → State) (to : World → State) (a b : Holdings)
    (f g : Telling) (steps : ℕ) (stopped : Option Stopped) → ((world : World) → state_at from world ≡ begin world)
    → FollowsTo most (state_at from) to a b f g steps stopped → FollowsTo most begin to a b f g steps stopped
follows_to_from most from begin to a b f g steps None same follows = (
  follows.0,
  Joined-on (λ (was : World) (is : World). Lists most (state_at from was) (to is))
      (λ (was : World) (is : World). Lists most (begin was) (to is)) a b f g
      (λ (was : World) (is : World) lists. subst (λ it. Lists most it (to is)) (same was) lists) follows.1,
)
follows_to_from most from begin to a b f g steps (Some stopped) same follows =
    Joined-on (λ (was : World) (is : World). ListsAll (state_at from was) steps stopped.stop is)
    (λ (was : World) (is : World). ListsAll (begin was) steps stopped.stop is) a b f g
    (λ (was : World) (is : World) lists. subst (λ it. ListsAll it steps stopped.stop is) (same was) lists) follows

pub follows_from : (most : ℕ) (from : Execution) (begin : World → State) (to : World → State) (a b : Holdings)
    (f g : Telling) (result : Result Followed ToolFault) → ((world : World) → state_at from world ≡ begin world)
    → Follows most (state_at from) to a b f g result → Follows most begin to a b f g result
follows_from most from begin to a b f g (Err fault) same follows = tt
follows_from most from begin to a b f g (Ok followed) same follows =
    follows_to_from most from begin to a b f g followed.steps followed.stopped same follows

pub follows_macro : (task : Task) (most : ℕ) (command : List ℕ) (from to : Execution) (a b : Holdings)
    (f g : Telling) (result : Result Followed ToolFault) → command ≡ call_text task.entry task.argument
    → ((world : World) → state_at from world ≡ start command world)
    → Follows most (state_at from) (state_at to) a b f g result → FollowsMacro task most a b f g result
follows_macro task most command from to a b f g (Err fault) is same follows = tt
follows_macro task most command from to a b f g (Ok followed) is same follows = record {
  to = to;
  follows = subst (λ it. Follows most (start it) (state_at to) a b f g (Ok followed)) is
      (follows_from most from (start command) (state_at to) a b f g (Ok followed) same follows);
}

-- ---- what is answered
pub unloaded : (task : Task) (library : LibraryFile) (most : ℕ) (a b : Holdings) (f g : Telling)
    (result : Result Outcome ToolFault) → IsErr result → TracesLoaded task library most a b f g result
unloaded task library most a b f g (Ok outcome) failed = absurd (cc)
unloaded task library most a b f g (Err fault) failed = tt

pub on_each : (task : Task) (library : LibraryFile) (most : ℕ) (a b : Holdings) (f g : Telling)
    (result : Result Outcome ToolFault) → task.pages ≡ Each → TracesLoaded task library most a b f g result
on_each task library most a b f g (Ok outcome) each =
    subst (λ pages. FollowsPages pages task most (with_library library a) b f g (Ok outcome)) (sym each) tt
on_each task library most a b f g (Err fault) each = tt

-- of one page, or of all as one
pub on_one : (task : Task) (library : LibraryFile) (most : ℕ) (a b : Holdings) (f g : Telling)
    (result : Result Outcome ToolFault) → (task.pages ≡ First) ⊎ (task.pages ≡ Whole)
    → FollowsOnce task most (with_library library a) b f g result → TracesLoaded task library most a b f g result
on_one task library most a b f g (Ok outcome) (inl first) follows =
    subst (λ pages. FollowsPages pages task most (with_library library a) b f g (Ok outcome)) (sym first) follows
on_one task library most a b f g (Ok outcome) (inr whole) follows =
    subst (λ pages. FollowsPages pages task most (with_library library a) b f g (Ok outcome)) (sym whole) follows
on_one task library most a b f g (Err fault) one follows = tt

pub library_failed : (task : Task) (library : LibraryFile) (most : ℕ) (g : Telling)
    (result : Result Outcome ToolFault) → IsErr result → TracesLibrary task library most g result
library_failed task library most g (Ok outcome) failed = absurd (cc)
library_failed task library most g (Err fault) failed = tt

pub library_opened : (task : Task) (library : LibraryFile) (most : ℕ) (a b : Holdings) (f g : Telling)
    (result : Result Outcome ToolFault) → TracesLoaded task library most a b f g result
    → TracesLibrary task library most g result
library_opened task library most a b f g (Ok Done) traces =
    record { old = a; new = b; before = f; traces = traces }
library_opened task library most a b f g (Ok Coded) traces = tt
library_opened task library most a b f g (Ok Refused) traces = tt
library_opened task library most a b f g (Err fault) traces = tt

pub traces_failed : (task : Task) (most : ℕ) (g : Telling) (result : Result Outcome ToolFault) → IsErr result
    → Traces task most g result
traces_failed task most g (Ok outcome) failed = absurd (cc)
traces_failed task most g (Err fault) failed = tt

pub traces_library : (task : Task) (library : LibraryFile) (most : ℕ) (g : Telling)
    (result : Result Outcome ToolFault) → TracesLibrary task library most g result → Traces task most g result
traces_library task library most g (Ok Done) traces = (library, traces)
traces_library task library most g (Ok Coded) traces = tt
traces_library task library most g (Ok Refused) traces = tt
traces_library task library most g (Err fault) traces = tt
