-- Where the pointer is, and what always holds of a pair.
use Rattle.teco_law_facts.proofs.Prelude.{ℕ, arith, Run, IsWhole, Holds, fore_of, back_of, Kept, Facts}
use Rattle.teco_law_facts.proofs.Numbers.{AreDistances}

pub distances : (run : Run) (facts : Facts) (unread : ℕ) (kept : Kept) → IsWhole kept → Holds run facts unread kept
    → AreDistances facts.position.distances (fore_of kept) (back_of kept)
distances run facts unread kept w h = record {
  least = record { behind = h.position.begin; ahead = h.position.end };
  within = omega (arith, w.inside, w.within);
}
