use Rattle.teco_claims.proofs.Prelude.{◌≡◌, ◌++◌, ◌∷◌, ◌≤◌, ℕ, List, length, flat_map, AllByRecursion, codes, LF}
use Rattle.teco_claims.proofs.Prelude.{IsTerm, AreTerms, signed_text, next_text, ClaimTerm}
use Rattle.teco_poly.proofs.Items.{AreLeft}
use Rattle.teco_claims.proofs.reading.others_at.Given as goal

-- of whatever terms there are, those that are read and those that are left are all; those that are read stand in order
abbrev pub invariant-loop-words : goal.invariant-loop-words
invariant-loop-words l = record {
  within : length l.rest ≤ length l.fn.text;
  are : AreTerms l.terms.items;
  left : (ts : List ClaimTerm) (rest : List ℕ) → AllByRecursion IsTerm ts → l.fn.text ≡ flat_map next_text ts
      ++ LF ∷ rest
      → AreLeft (codes " ") signed_text IsTerm (LF ∷ rest) (l.fn.terms.items ++ ts) l.terms.items l.rest;
}

abbrev pub decreases-loop-words : goal.decreases-loop-words
decreases-loop-words l = length l.rest
