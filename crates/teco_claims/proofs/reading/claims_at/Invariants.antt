use Rattle.teco_claims.proofs.Prelude.{◌≡◌, ◌++◌, ◌≤◌, ℕ, List, length, flat_map, AllByRecursion, codes, EndsClaims}
use Rattle.teco_claims.proofs.Prelude.{IsClaim, line, terms_text, claim_line, ClaimTerm}
use Rattle.teco_poly.proofs.Items.{AreLeft}
use Rattle.teco_claims.proofs.reading.claims_at.Given as goal

abbrev pub claim_rest : List ClaimTerm → List ℕ
claim_rest terms = line (terms_text terms)

-- of whatever claims there are, those that are read and those that are left are all
abbrev pub invariant-loop-words : goal.invariant-loop-words
invariant-loop-words l = record {
  within : length l.rest ≤ length l.fn.text;
  are : AllByRecursion IsClaim l.claims.items;
  left : (cs : List (List ClaimTerm)) (rest : List ℕ) → AllByRecursion IsClaim cs → EndsClaims rest
      → l.fn.text ≡ flat_map claim_line cs ++ rest
      → AreLeft (codes "0 <=") claim_rest IsClaim rest cs l.claims.items l.rest;
}

abbrev pub decreases-loop-words : goal.decreases-loop-words
decreases-loop-words l = length l.rest
