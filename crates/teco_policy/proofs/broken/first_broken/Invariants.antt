use Rattle.std.proofs.Common.{take}
use Rattle.teco_policy.specs.Policies.{KeepEach}
use Rattle.teco_policy.proofs.broken.first_broken.Given as goal

abbrev pub invariant-loop-policy : goal.invariant-loop-policy
invariant-loop-policy l = KeepEach (take l.policy l.policies) l.old l.new
