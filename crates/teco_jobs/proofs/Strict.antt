-- Runs that strict terms admit are sure.
use Rattle.std.proofs.Common.{ℕ, ◌+◌, ◌≤◌, true, Option, Some, None, inl, inr, ◌⊎◌, refl, arith}
use Rattle.std.specs.Prelude.{IfSome}
use Rattle.teco_jobs.specs.Strict.{AreStrict, StrictRunsAreSure, on_terms}
use Rattle.teco_jobs.specs.Terms.{IsPromised, n_at_most}
use Rattle.teco_jobs.specs.declared.watching.Terms.{Terms}
use Rattle.teco_apply.specs.Apply.{IsNotRun}
use Rattle.teco_apply.specs.ByPages.{AdmittedStops, IsAnswered}
use Rattle.teco_apply.specs.Sure.{PromisedCall, IsReady, loaded}
use Rattle.teco_law_runs.specs.Ready.{n_of}
use Rattle.teco_model.specs.Paging.{unread_of}
use Rattle.teco_model.specs.Run.{IsSure}
use Rattle.teco_model.specs.State.{World, held_length}
use Rattle.teco_model.specs.declared.stop.Stop.{Stop}
use Rattle.teco_poly.specs.Laws.{ValuesGrow}
use Rattle.teco_poly.specs.Polynomial.{value}
use Rattle.teco_console.specs.Premise.{IsPremise, IsWithin}

module _ (grow : ValuesGrow) (terms : Terms) (call : PromisedCall) (strict : AreStrict terms call) where
  -- where the last N is no less
  ready-by : (last : Option ℕ) → IsPremise call.promise.size call.promise.commands last
      → (n : ℕ) (world : World) → IsWithin last n → n_of world ≤ n → IsReady call.promise world
  ready-by None premise n world within below = absurd within
  ready-by (Some last) premise n world within below =
      let to_last : n_of world ≤ last = omega (arith, within, below) in
      let size = grow call.promise.size (n_of world) last to_last in
      let commands = grow call.promise.commands (n_of world) last to_last in
      record { fits = omega (arith, size, premise.holds.fits); counts = omega (arith, commands, premise.holds.counts) }

  ready-with : (world : World) (most : Option ℕ) → IfSome most (λ n. unread_of world ≤ n)
      → IsPromised terms (n_at_most (held_length world.kept) most) → IsReady call.promise world
  ready-with world None unread promised = absurd promised
  ready-with world (Some most) unread promised =
      ready-by terms.bound.premise.last strict.premise (held_length world.kept + most) world promised
      (let k : n_of world ≤ held_length world.kept + most = omega (arith, unread) in k)

  admits : (old : World) → IsAnswered (on_terms terms call) old true
      → IsReady call.promise (loaded call.promise.library old)
  admits old asked =
      ready-with (loaded call.promise.library old) asked.most asked.unread
      ((asked.answered.0 refl).promised strict.strict)

  runs : (old new : World) (stop : Stop) → AdmittedStops (on_terms terms call) old stop new
      → IsSure (value call.promise.commands (n_of (loaded call.promise.library old))) stop
      ⊎ IsNotRun call.promise.needs old stop new
  runs old new stop (inl ran) = inl (ran.1.sure (admits old ran.0))
  runs old new stop (inr not_run) = inr not_run

pub strict-admits : ValuesGrow → (terms : Terms) (call : PromisedCall) → AreStrict terms call → (old : World)
    → IsAnswered (on_terms terms call) old true
    → IsReady call.promise (loaded call.promise.library old)
strict-admits grow terms call strict = admits grow terms call strict

pub strict-runs : ValuesGrow → StrictRunsAreSure
strict-runs grow terms call old new stop strict stops = runs grow terms call strict old new stop stops
