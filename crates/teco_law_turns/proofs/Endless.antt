-- A table that lacks only the own fall of a kept loop, and its runs without end.
use Rattle.std.proofs.Common.{◌≡◌, ℕ, zero, suc, ◌<◌, ◌≤◌, List, [], ◌∷◌, ◌++◌, Some, None, refl, arith}
use Rattle.std.proofs.lemmas.Int.{ints}
use Rattle.teco_law_turns.specs.Moves.{OpenLoop, Goes, Enters, Returns, Forward, Into, Back}
use Rattle.teco_law_turns.proofs.Stepwise.{at_node, Run, stop, ◌before◌}
use Rattle.teco_law_turns.specs.Needed.{rising, rising_loops, rising_end, rising_start, IsClosedButForFall}
use Rattle.teco_law_turns.specs.Needed.{OwnFallIsNeeded}

outer_body : (j : ℕ) → 0 < j → j ≤ 5 → (inner : List ℕ) × (rising_loops j ≡ inner ++ 0 ∷ [])
outer_body (suc zero) from to = ([], refl)
outer_body (suc (suc zero)) from to = ([], refl)
outer_body (suc (suc (suc zero))) from to = (2 ∷ [], refl)
outer_body (suc (suc (suc (suc zero)))) from to = (2 ∷ [], refl)
outer_body (suc (suc (suc (suc (suc zero))))) from to = ([], refl)
outer_body j from to = absurd (grind arith)

inner_body : (j : ℕ) → 2 < j → j ≤ 4 → (inner : List ℕ) × (rising_loops j ≡ inner ++ 2 ∷ 0 ∷ [])
inner_body (suc (suc (suc zero))) from to = ([], refl)
inner_body (suc (suc (suc (suc zero)))) from to = ([], refl)
inner_body j from to = absurd (grind arith)

almost_closed : (l : ℕ) → l < rising_end l → IsClosedButForFall rising l
almost_closed zero some = search (arith, ints, outer_body)
almost_closed (suc (suc zero)) some = search (arith, ints, inner_body)
almost_closed l some = absurd (grind arith)

-- the open loops in the outer body, and in the inner one with so many turns to come
abbrev outside : List OpenLoop
outside = record { begin = 0; more = None } ∷ []

abbrev inside : ℕ → List OpenLoop
inside n = record { begin = 2; more = Some n } ∷ outside

enters_outer : Enters rising rising_start (at_node 1 2 2 outside)
enters_outer = search (arith, ints)

two_ahead : Goes rising (at_node 1 2 2 outside) (at_node 2 2 0 outside)
two_ahead = search (arith, ints)

enters_inner : Enters rising (at_node 2 2 0 outside) (at_node 3 2 0 (inside 1))
enters_inner = search (arith, ints)

one_back : (ahead n : ℕ) → ahead ≤ 1 → Goes rising (at_node 3 2 ahead (inside n)) (at_node 4 2 (suc ahead) (inside n))
one_back ahead n low = search (arith, ints)

returns_inner : Returns rising (at_node 4 2 1 (inside 1)) (at_node 3 2 1 (inside 0))
returns_inner = search (arith, ints)

leaves_inner : Goes rising (at_node 4 2 2 (inside 0)) (at_node 5 2 2 outside)
leaves_inner = search (arith, ints)

returns_outer : Returns rising (at_node 5 2 2 outside) (at_node 1 2 2 outside)
returns_outer = search (arith, ints)

-- a turn of the outer loop comes back to where it began
lap : (moves n : ℕ) → Run rising moves (at_node 1 2 2 outside) n
    → Run rising (suc (suc (suc (suc (suc (suc (suc moves))))))) (at_node 1 2 2 outside)
    (suc (suc (suc (suc (suc (suc (suc n)))))))
lap moves n run =
    Forward two_ahead
    before Into enters_inner
    before Forward (one_back 0 1 (omega arith))
    before Back returns_inner
    before Forward (one_back 1 0 (omega arith))
    before Forward leaves_inner
    before Back returns_outer
    before run

record Laps (n : ℕ) : Type 0 where
  moves : ℕ
  steps : ℕ
  run : Run rising moves (at_node 1 2 2 outside) steps
  enough : n ≤ steps

laps : (n : ℕ) → Laps n
laps zero = record { moves = 0; steps = 1; run = stop 1 2 2 outside (λ i. omega arith); enough = omega arith }
laps (suc n) =
    let earlier = laps n in
    record {
      moves = _;
      steps = _;
      run = lap earlier.moves earlier.steps earlier.run;
      enough = omega (arith, earlier.enough);
    }

pub own_fall_is_needed : OwnFallIsNeeded
own_fall_is_needed = record {
  closed = almost_closed;
  start = search arith;
  endless = λ n. let all = laps n in
      let run : Run rising (suc all.moves) rising_start (suc all.steps) = Into enters_outer before all.run in
      (suc all.moves, suc all.steps, run.takes, omega (arith, all.enough));
}
