use Rattle.teco_facts.proofs.Prelude.{arith, ints, clamps}
use Rattle.teco_facts.proofs.range.RangeMeets.met.Goals as goal

pub invariant_of-result : goal.invariant_of-result
invariant_of-result c =
    record {
      ordered = omega (arith, ints, clamps, c.min.ensures, c.max.ensures, c.self.invariant, c.other.invariant);
      low = omega (arith, ints, clamps, c.min.ensures, c.max.ensures, c.self.invariant, c.other.invariant);
      high = omega (arith, ints, clamps, c.min.ensures, c.max.ensures, c.self.invariant, c.other.invariant);
    }
