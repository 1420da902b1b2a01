use Rattle.teco_facts.proofs.Prelude.{w64, to_z-of_z}
use Rattle.teco_facts.proofs.Ends.{is_range, of_parts}
use Rattle.teco_facts.proofs.Places.{number_is_place}
use Rattle.teco_facts.proofs.Wholes.{place_whole}
use Rattle.teco_facts.proofs.arithmetic.range_of.Goals as goal

pub invariant_of-result : goal.invariant_of-result
invariant_of-result c =
    let n = place_whole _ _ _ _ (number_is_place _ _ _ _ c.requires) in
    let one = to_z-of_z w64 c.least_share-least_ahead.result (record { sfits = c.least_share-least_ahead.type_inv }) in
    let two = to_z-of_z w64 c.least_share-least_behind.result (record { sfits = c.least_share-least_behind.type_inv })
    in
    let three = to_z-of_z w64 c.most_share-most_ahead.result (record { sfits = c.most_share-most_ahead.type_inv }) in
    let four = to_z-of_z w64 c.most_share-most_behind.result (record { sfits = c.most_share-most_behind.type_inv }) in
    rw (
      to_z-of_z w64 c.total.result (record { sfits = c.total.type_inv }),
      to_z-of_z w64 c.total-2.result (record { sfits = c.total-2.type_inv }),
    )
    (is_range _ _ _ _ _ _ _ _ c.requires (rw n.ahead at c.least_share-least_ahead.ensures.share)
    (rw n.behind at c.least_share-least_behind.ensures.share)
    (rw n.ahead at c.most_share-most_ahead.ensures.share) (rw n.behind at c.most_share-most_behind.ensures.share)
    _ _ (rw (one, two, n.lo) at c.total.ensures) (rw (three, four, n.hi) at c.total-2.ensures)
    (rw (n.ahead, ← (rw n.ahead at c.least_share-least_ahead.ensures.value)) at c.most_share-most_ahead.ensures.ordered)
    (rw (n.behind, ← (rw n.behind at c.least_share-least_behind.ensures.value)) at
    c.most_share-most_behind.ensures.ordered))

pub returns : goal.returns
returns c =
    let n = place_whole _ _ _ _ (number_is_place _ _ _ _ c.requires) in
    let one = to_z-of_z w64 c.least_share-least_ahead.result (record { sfits = c.least_share-least_ahead.type_inv }) in
    let two = to_z-of_z w64 c.least_share-least_behind.result (record { sfits = c.least_share-least_behind.type_inv })
    in
    let three = to_z-of_z w64 c.most_share-most_ahead.result (record { sfits = c.most_share-most_ahead.type_inv }) in
    let four = to_z-of_z w64 c.most_share-most_behind.result (record { sfits = c.most_share-most_behind.type_inv }) in
    rw (
      to_z-of_z w64 c.total.result (record { sfits = c.total.type_inv }),
      to_z-of_z w64 c.total-2.result (record { sfits = c.total-2.type_inv }),
      ← c.margins.view_is,
    )
    (of_parts _ c.args.n _ _ _ _ _ _ (rw n.ahead at c.least_share-least_ahead.ensures.value)
    (rw n.behind at c.least_share-least_behind.ensures.value)
    (rw n.ahead at c.most_share-most_ahead.ensures.value) (rw n.behind at c.most_share-most_behind.ensures.value)
    (rw (one, two, n.lo) at c.total.ensures) (rw (three, four, n.hi) at c.total-2.ensures))
