use Rattle.std.proofs.Common.{◌≡◌, ◌≤◌, ◌-◌, take, length}
use Rattle.teco_claims.proofs.printing.same_front.Given as goal

-- the bytes so far are alike
abbrev pub invariant-bytes : goal.invariant-bytes
invariant-bytes l = record {
  within : l.count ≤ length l.text;
  other : l.count ≤ length l.other;
  same : take l.count l.text ≡ take l.count l.other;
}

abbrev pub decreases-bytes : goal.decreases-bytes
decreases-bytes l = length l.text - l.count
