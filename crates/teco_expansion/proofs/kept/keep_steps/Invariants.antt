use Rattle.teco_expansion.proofs.Prelude.{◌≡◌, ℕ, List, Some, All, Library, macro, IsKeptOf}
use Rattle.teco_scan.specs.Skips.{IsStepOf}
use Rattle.teco_expansion.proofs.kept.keep_steps.Given as goal

abbrev pub invariant-loop-step : goal.invariant-loop-step
invariant-loop-step l =
    (library : Library) (text : List ℕ) → macro library l.register ≡ Some text → All (IsStepOf text) l.steps
    → All (IsKeptOf library) l.fn.kept.items → All (IsKeptOf library) l.kept.items
