use Rattle.std.proofs.Common.{◌<◌, ℕ, List, get_or}
use Rattle.teco_change_policies.specs.Simple.{IsSimple}
use Rattle.teco_change_policies.proofs.sought.are_simple.Given as goal

abbrev pub invariant-loop-text : goal.invariant-loop-text
invariant-loop-text l = (k : ℕ) (d : List ℕ) → k < l.text-index → IsSimple (get_or l.wanted k d)
