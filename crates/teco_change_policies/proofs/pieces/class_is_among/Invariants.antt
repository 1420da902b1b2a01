use Rattle.std.proofs.Common.{◌<◌, ◌≤◌, ℕ, IsTrue, get_or}
use Rattle.teco_changes.specs.declared.change.Range.{Range}
use Rattle.teco_policy.specs.Subsequences.{is_one_of}
use Rattle.teco_change_policies.proofs.pieces.class_is_among.Given as goal

abbrev pub invariant-loop-range : goal.invariant-loop-range
invariant-loop-range l =
    (k : ℕ) (d : Range) → k < l.range-index → (b : ℕ) → (get_or l.ranges k d).first ≤ b → b ≤ (get_or l.ranges k d).last
    → IsTrue (is_one_of l.characters b)
