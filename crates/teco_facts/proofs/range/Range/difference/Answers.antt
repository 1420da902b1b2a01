use Rattle.teco_facts.proofs.Wholes.{low_whole, high_whole, difference_whole, differences_in_order}
use Rattle.teco_facts.proofs.range.Range.difference.Goals as goal

pub kept-requires : goal.kept-requires
kept-requires c =
    let i_lo = low_whole c.self.invariant in
    let i_hi = high_whole c.self.invariant in
    let j_lo = low_whole c.other.invariant in
    let j_hi = high_whole c.other.invariant in
    rw (
      difference_whole i_lo j_hi (record { sfits = c.sub.type_inv }) c.sub.ensures,
      difference_whole i_hi j_lo (record { sfits = c.sub-2.type_inv }) c.sub-2.ensures,
    )
    (differences_in_order c.self.invariant c.other.invariant)
