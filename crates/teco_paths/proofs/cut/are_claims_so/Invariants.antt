use Rattle.teco_paths.proofs.Prelude.{ℕ, ◌<◌, List, slice_index_or, All, Term, Valuation, values, Holds}
use Rattle.teco_paths.proofs.cut.are_claims_so.Given as goal

-- the claims before this one hold
abbrev pub invariant-loop-claim : goal.invariant-loop-claim
invariant-loop-claim l =
    (n : ℕ) (v : Valuation) → All (Holds n v) l.case.constraints.items
    → (k : ℕ) (d : List Term) → k < l.claim-index → Holds n (values l.forms n v) (slice_index_or l.claims k d)
