use Rattle.teco_rows.proofs.Prelude.{◌≡◌, ℕ, ◌+ℤ◌, drop, Valuation, value, sum_of, read_by}
use Rattle.teco_rows.proofs.applied.added.Given as goal

-- what is added so far and the rest are the whole
abbrev pub invariant-loop-times : goal.invariant-loop-times
invariant-loop-times l =
    (n : ℕ) (v : Valuation)
    → value l.sum n v +ℤ sum_of (read_by l.case l.step n v) (drop l.times-index l.parts)
    ≡ l.constant +ℤ sum_of (read_by l.case l.step n v) l.parts
