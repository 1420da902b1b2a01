use Rattle.teco_search_outcomes.proofs.Prelude.{◌≡◌, ℕ, pos, drop, Bool, Valuation, value, IsWhole, Point, IsTrueOf}
use Rattle.std.proofs.Common.{◌+ℤ◌}
use Rattle.teco_search_outcomes.proofs.Parting.{count}
use Rattle.teco_search_outcomes.proofs.patterns.least.Given as goal

-- what is added so far and what the rest stands for are the whole
abbrev pub invariant-loop-part : goal.invariant-loop-part
invariant-loop-part l =
    (exact : Bool) (n : ℕ) (v : Valuation) (s : Point)
    → IsTrueOf n v l.case s → IsWhole s.kept
    → value l.sum n v +ℤ pos (count s.kept.registers exact (drop l.part-index l.parts))
    ≡ pos (count s.kept.registers exact l.parts)
