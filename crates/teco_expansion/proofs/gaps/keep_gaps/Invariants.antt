use Rattle.teco_expansion.proofs.Prelude.{◌≡◌, ◌-◌, ◌≤◌, length, Some, All, Library, macro, IsGapOf}
use Rattle.teco_expansion.proofs.gaps.keep_gaps.Given as goal

abbrev pub invariant-loop-reading : goal.invariant-loop-reading
invariant-loop-reading l = record {
  text : l.ahead.text ≡ l.text;
  within : l.ahead.place ≤ length l.text;
  gaps : (library : Library) → macro library l.register ≡ Some l.text → All (IsGapOf library) l.fn.gaps.items
      → All (IsGapOf library) l.gaps.items;
}

abbrev pub decreases-loop-reading : goal.decreases-loop-reading
decreases-loop-reading l = length l.text - l.ahead.place
