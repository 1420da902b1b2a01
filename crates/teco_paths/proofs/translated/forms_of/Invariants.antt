use Rattle.teco_paths.proofs.Prelude.{◌≡◌, ℕ, ◌<◌, List, Some, length, slice_index_or, Term, Point, Node, numbered}
use Rattle.teco_claims.specs.declared.term.ClaimTerm.{ClaimTerm}
use Rattle.teco_paths.specs.Claims.{ClaimHolds}
use Rattle.teco_paths.specs.Meaning.{IsSo}
use Rattle.teco_paths.proofs.translated.forms_of.Given as goal

-- so many forms were made, each of which says what the claim in its place does
abbrev pub invariant-loop-claim : goal.invariant-loop-claim
invariant-loop-claim l = record {
  count : length l.claims.items ≡ l.claim-index;
  each : (k : ℕ) (d : List Term) (e : List ClaimTerm) → k < l.claim-index → (n : ℕ) (s : Point)
      → ClaimHolds n s (slice_index_or l.claims.items k d)
      → (node : Node) → numbered l.nodes l.number ≡ Some node → IsSo node n s (slice_index_or l.cut.claims k e);
}
