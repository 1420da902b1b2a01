use Rattle.std.proofs.Common.{ℕ, List, take}
use Rattle.teco_policy.specs.Policies.{KeepEach}
use Rattle.teco_policy.proofs.sameness.say_same.Given as goal

abbrev pub invariant-loop-i : goal.invariant-loop-i
invariant-loop-i l = (old new : List ℕ) → KeepEach l.policies old new → KeepEach (take l.i l.others) old new
