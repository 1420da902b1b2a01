use Rattle.teco_claims.proofs.Prelude.{◌≡◌, ◌++◌, take, flat_map, claim_line}
use Rattle.teco_claims.proofs.printing.push_claims.Given as goal

-- what is added so far is of those so far
abbrev pub invariant-loop-claim : goal.invariant-loop-claim
invariant-loop-claim l = l.text.items ≡ l.fn.text.items ++ flat_map claim_line (take l.claim-index l.claims)
