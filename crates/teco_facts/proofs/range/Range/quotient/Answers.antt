use Rattle.teco_facts.proofs.Prelude.{refl, w64, to_z-of_z}
use Rattle.teco_facts.proofs.Wholes.{low_whole, high_whole}
use Rattle.teco_facts.proofs.range.Range.quotient.Goals as goal

pub returns : goal.returns
returns c =
    let i_lo = low_whole c.self.invariant in
    let i_hi = high_whole c.self.invariant in
    let j_lo = low_whole c.other.invariant in
    let j_hi = high_whole c.other.invariant in
    let one = to_z-of_z w64 c.quotient.result (record { sfits = c.quotient.type_inv }) in
    let two = to_z-of_z w64 c.quotient-2.result (record { sfits = c.quotient-2.type_inv }) in
    let three = to_z-of_z w64 c.quotient-3.result (record { sfits = c.quotient-3.type_inv }) in
    let four = to_z-of_z w64 c.quotient-4.result (record { sfits = c.quotient-4.type_inv }) in
    let low_low = rw (i_lo, j_lo) at c.quotient.ensures in
    let low_high = rw (i_lo, j_hi) at c.quotient-2.ensures in
    let high_low = rw (i_hi, j_lo) at c.quotient-3.ensures in
    let high_high = rw (i_hi, j_hi) at c.quotient-4.ensures in
    rw (
      c.hull.ensures,
      one,
      two,
      three,
      four,
      low_low,
      low_high,
      high_low,
      high_high,
      ← c.self.view_is,
      ← c.other.view_is,
    ) refl
