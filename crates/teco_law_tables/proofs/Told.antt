-- At its end a run has changed the text by what is told of its nodes.
use Rattle.teco_law_tables.proofs.Prelude.{◌≡◌, ℕ, suc, ◌+◌, ◌-◌, ◌<◌, refl, subst, arith, AreOpen, IterationsEnd}
use Rattle.teco_law_tables.proofs.Prelude.{start_given, needs_in, reaches_later, CallLaws, IsLoaded, Reaches, State}
use Rattle.teco_law_changes.specs.Runs.{Begins, ChangesAsTold, EndsAreTold, IsOfMacro}
use Rattle.teco_law_changes.proofs.Runs.{call_begins}
use Rattle.teco_law_tables.proofs.Called.{LeavesWorld, call_leaves}
use Rattle.teco_law_tables.proofs.Described.{known_there, not_ended, ready_call}
use Rattle.teco_law_tables.proofs.Ending as ending
use Rattle.teco_law_tables.proofs.Ending.{ClosedCall}
use Rattle.teco_law_tables.proofs.Underway.{ElementsGo}
use Rattle.teco_law_tables.proofs.Verifying as verifying
use Rattle.teco_law_tables.specs.Bounded.{AtNode, BehindCall, IsKnown}
use Rattle.teco_law_tables.specs.Framing.{RunsChangeAsTold}

module _ (laws : ending.Laws) (call : ClosedCall)
    (go : ElementsGo call.library call.entry call.nodes call.table call.n call.world.kept.registers.stack
    (start_given call.entry call.given call.world)) (files : AreOpen (needs_in call.nodes call.table) call.world.files)
    (steps : ℕ) (last : State) (came : Reaches steps (start_given call.entry call.given call.world) last) where
  abbrev first : State
  first = start_given call.entry call.given call.world

  -- the library is loaded wherever an element begins
  loaded_by : (k : ℕ) (u : State) → k < steps → Reaches k first u
      → IsKnown call.library call.entry call.nodes call.table call.n call.world.kept.registers.stack u
      → IsLoaded call.library u.world.kept
  loaded_by k u less there (AtNode number turns here) = here.loaded
  loaded_by k u less there (BehindCall over) =
      let e : steps ≡ k + suc ((steps - k) - 1) = omega (arith, less) in
      absurd (not_ended u last u.world ((steps - k) - 1) (laws.over call.entry u over)
      (reaches_later k (suc ((steps - k) - 1)) first u last there (subst (λ n. Reaches n first last) e came)))

  of_macro : IsOfMacro call.library call.entry call.nodes first steps
  of_macro = record {
    linked = call.are;
    begins = refl;
    loaded = λ k u less there none. loaded_by k u less there (known_there laws call go files k u there none);
  }

given_told : (laws : ending.Laws) (told : EndsAreTold) (call : ClosedCall)
    (go : ElementsGo call.library call.entry call.nodes call.table call.n call.world.kept.registers.stack
    (start_given call.entry call.given call.world))
    → AreOpen (needs_in call.nodes call.table) call.world.files
    → Begins (start_given call.entry call.given call.world)
    → LeavesWorld (ChangesAsTold call.nodes call.world) (start_given call.entry call.given call.world)
given_told laws told call go files begins steps new ends =
    told call.library call.entry call.nodes (start_given call.entry call.given call.world) steps new begins
    (of_macro laws call go files steps ends.last ends.steps) ends

pub runs_change_as_told : ending.Laws → verifying.Laws → CallLaws → IterationsEnd → EndsAreTold → RunsChangeAsTold
runs_change_as_told laws facts calls ends told library entry argument given nodes table commands most n world are
    printed asked ready files =
    call_leaves (ChangesAsTold nodes world) calls entry argument given world ready.named asked
    (given_told laws told (ready_call library entry argument given nodes table commands most n world are printed
    asked ready) (verifying.elements_go facts ends library entry argument given nodes table commands most n world
    are printed asked ready) files (call_begins argument entry given world asked ready.whole ready.call))
