-- What strict terms promise of each run that they admit.
use Rattle.std.specs.Prelude.{◌≡◌, ◌⊎◌, Bool, true}
use Rattle.teco_jobs.specs.Terms.{Answers}
use Rattle.teco_jobs.specs.declared.watching.Terms.{Terms}
use Rattle.teco_apply.specs.Apply.{IsNotRun}
use Rattle.teco_apply.specs.ByPages.{AdmittedStops, Order, order_by}
use Rattle.teco_apply.specs.Sure.{PromisedCall, loaded}
use Rattle.teco_law_runs.specs.Ready.{n_of}
use Rattle.teco_model.specs.Run.{IsSure}
use Rattle.teco_model.specs.State.{World}
use Rattle.teco_model.specs.declared.stop.Stop.{Stop}
use Rattle.teco_poly.specs.Polynomial.{value}
use Rattle.teco_console.specs.Premise.{IsPremise}

-- a macro that is to be run on these terms
abbrev pub on_terms : Terms → PromisedCall → Order
on_terms terms call = order_by (Answers terms) call

-- Terms that are strict, or not, and whose promise is that of the macro.
pub record AreTerms (is_strict : Bool) (call : PromisedCall) (terms : Terms) : Type 0 where
  pub strict : terms.is_strict ≡ is_strict
  pub premise : IsPremise call.promise.size call.promise.commands terms.bound.premise.last

-- something is done on such terms
abbrev pub OnTerms : Bool → PromisedCall → (Order → Type 0) → Type 0
OnTerms is_strict call Done = (terms : Terms) × AreTerms is_strict call terms × Done (on_terms terms call)

-- the terms are strict
abbrev pub AreStrict : Terms → PromisedCall → Type 0
AreStrict terms call = AreTerms true call terms

-- A run that is admitted comes to its end within the printed number of commands, and to no code; or want of memory
-- stops it, or the host. A macro that lacks a file is not run.
abbrev pub StrictRunsAreSure : Type 0
StrictRunsAreSure =
    (terms : Terms) (call : PromisedCall) (old new : World) (stop : Stop) → AreStrict terms call
    → AdmittedStops (on_terms terms call) old stop new
    → IsSure (value call.promise.commands (n_of (loaded call.promise.library old))) stop
    ⊎ IsNotRun call.promise.needs old stop new
