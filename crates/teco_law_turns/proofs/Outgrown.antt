-- A table that lacks only the growth of a loop, and a run past what is printed of it.
use Rattle.std.proofs.Common.{◌≡◌, ℕ, zero, suc, ◌<◌, ◌≤◌, List, [], ◌∷◌, ◌++◌, Some, None, refl, arith}
use Rattle.std.proofs.lemmas.Int.{ints}
use Rattle.teco_law_turns.specs.Moves.{OpenLoop, Goes, Enters, Returns, Forward, Into, Back}
use Rattle.teco_law_turns.proofs.Stepwise.{at_node, Run, stop, ◌before◌}
use Rattle.teco_law_turns.specs.Needed.{grown, grown_loops, grown_end, grown_start, IsClosedButForGrowth}
use Rattle.teco_law_turns.specs.Needed.{GrowthIsNeeded}

outer_body : (j : ℕ) → 0 < j → j ≤ 5 → (inner : List ℕ) × (grown_loops j ≡ inner ++ 0 ∷ [])
outer_body (suc zero) from to = ([], refl)
outer_body (suc (suc zero)) from to = (1 ∷ [], refl)
outer_body (suc (suc (suc zero))) from to = (1 ∷ [], refl)
outer_body (suc (suc (suc (suc zero)))) from to = ([], refl)
outer_body (suc (suc (suc (suc (suc zero))))) from to = ([], refl)
outer_body j from to = absurd (grind arith)

inner_body : (j : ℕ) → 1 < j → j ≤ 3 → (inner : List ℕ) × (grown_loops j ≡ inner ++ 1 ∷ 0 ∷ [])
inner_body (suc (suc zero)) from to = ([], refl)
inner_body (suc (suc (suc zero))) from to = ([], refl)
inner_body j from to = absurd (grind arith)

almost_closed : (l : ℕ) → l < grown_end l → IsClosedButForGrowth grown l
almost_closed zero some = search (arith, ints, outer_body)
almost_closed (suc zero) some = search (arith, ints, inner_body)
almost_closed (suc (suc l)) some = absurd (omega arith)

-- the open loops in the outer body, with so many turns to come, and in the inner one
abbrev outside : ℕ → List OpenLoop
outside n = record { begin = 0; more = Some n } ∷ []

abbrev inside : ℕ → List OpenLoop
inside n = record { begin = 1; more = None } ∷ outside n

enters_outer : Enters grown grown_start (at_node 1 0 0 (outside 1))
enters_outer = search (arith, ints)

enters_inner : (held n : ℕ) → Enters grown (at_node 1 held held (outside n)) (at_node 2 held held (inside n))
enters_inner held n = search (arith, ints)

leaves_inner : Goes grown (at_node 2 0 0 (inside 1)) (at_node 4 0 0 (outside 1))
leaves_inner = search (arith, ints)

puts_in : Goes grown (at_node 4 0 0 (outside 1)) (at_node 5 5 5 (outside 1))
puts_in = search (arith, ints)

returns_outer : Returns grown (at_node 5 5 5 (outside 1)) (at_node 1 5 5 (outside 0))
returns_outer = search (arith, ints)

one_ahead : (ahead : ℕ) → ahead ≤ 5 → Goes grown (at_node 2 5 (suc ahead) (inside 0)) (at_node 3 5 ahead (inside 0))
one_ahead ahead low = search (arith, ints)

returns_inner : (ahead : ℕ) → ahead ≤ 5 → Returns grown (at_node 3 5 ahead (inside 0)) (at_node 2 5 ahead (inside 0))
returns_inner ahead low = search (arith, ints)

a_run : Run grown 16 grown_start 17
a_run =
    Into enters_outer
    before Into (enters_inner 0 1)
    before Forward leaves_inner
    before Forward puts_in
    before Back returns_outer
    before Into (enters_inner 5 0)
    before Forward (one_ahead 4 (omega arith))
    before Back (returns_inner 4 (omega arith))
    before Forward (one_ahead 3 (omega arith))
    before Back (returns_inner 3 (omega arith))
    before Forward (one_ahead 2 (omega arith))
    before Back (returns_inner 2 (omega arith))
    before Forward (one_ahead 1 (omega arith))
    before Back (returns_inner 1 (omega arith))
    before Forward (one_ahead 0 (omega arith))
    before Back (returns_inner 0 (omega arith))
    before stop 2 5 0 (inside 0) (λ i. omega arith)

pub growth_is_needed : GrowthIsNeeded
growth_is_needed = search (almost_closed, a_run, arith)
