use Rattle.std.proofs.Common.{◌<◌, ◌≤◌, ℕ, IsTrue}
use Rattle.teco_policy.specs.Subsequences.{is_one_of}
use Rattle.teco_change_policies.proofs.pieces.range_is_among.Given as goal

abbrev pub invariant-loop-b : goal.invariant-loop-b
invariant-loop-b l = (k : ℕ) → l.fn.range.first ≤ k → k < l.b → IsTrue (is_one_of l.characters k)
