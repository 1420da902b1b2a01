-- The worked table is closed, and its run takes all the steps and all the turns.
use Rattle.std.proofs.Common.{◌≡◌, ℕ, zero, suc, ◌+◌, length, ◌<◌, ◌≤◌, List, [], ◌∷◌, ◌++◌, Some, refl, arith}
use Rattle.std.proofs.lemmas.Int.{ints}
use Rattle.teco_law_turns.specs.Table.{IsClosedLoop}
use Rattle.teco_law_turns.specs.Moves.{State, OpenLoop, Goes, Enters, Returns, Move, Forward, Into, Back}
use Rattle.teco_law_turns.specs.Turns.{turns_begun, Repeats}
use Rattle.teco_law_turns.proofs.Stepwise.{at_node, Run, stop, ◌before◌}
use Rattle.teco_law_turns.specs.Worked.{worked, worked_loops, worked_end, worked_start, WorkedIsTight}

body : (j : ℕ) → 0 < j → j ≤ 2 → (inner : List ℕ) × (worked_loops j ≡ inner ++ 0 ∷ [])
body (suc zero) from to = ([], refl)
body (suc (suc zero)) from to = ([], refl)
body j from to = absurd (grind arith)

the_loop : (l : ℕ) → l < worked_end l → IsClosedLoop worked l
the_loop zero some = search (arith, ints, body)
the_loop (suc l) some = absurd (omega arith)

abbrev open_with : ℕ → List OpenLoop
open_with n = record { begin = 0; more = Some n } ∷ []

abbrev there : ℕ → List OpenLoop → State
there i opened = at_node i 2 1 opened

enters : Enters worked worked_start (there 1 (open_with 2))
enters = search (arith, ints)

goes : (n : ℕ) → Goes worked (there 1 (open_with n)) (there 2 (open_with n))
goes n = search (arith, ints)

again : (n : ℕ) → Returns worked (there 2 (open_with (suc n))) (there 1 (open_with n))
again n = search (arith, ints)

leaves : Goes worked (there 2 (open_with 0)) (there 3 [])
leaves = search (arith, ints)

a_run : Run worked 7 worked_start 8
a_run =
    Into enters
    before Forward (goes 2)
    before Back (again 1)
    before Forward (goes 1)
    before Back (again 0)
    before Forward (goes 0)
    before Forward leaves
    before stop 3 2 1 [] (λ i. omega arith)

-- a move with the loop still open, and then the others
on : {s new : State} (moves rest : ℕ) (move : Move worked s new) → 1 ≤ length new.opened
    → Repeats worked 1 moves new rest → Repeats worked 1 (suc moves) s (turns_begun 1 worked s new move + rest)
on {new = new} moves rest move within others = (new, move, rest, within, others, refl)

one : 1 ≤ 1
one = omega arith

pub worked_is_tight : WorkedIsTight
worked_is_tight = record {
  closed = record { loop = the_loop };
  start = search arith;
  eight = refl;
  takes = a_run.takes;
  enters = enters;
  repeats = on 4 2 (Forward (goes 2)) one
      (on 3 1 (Back (again 1)) one (on 2 1 (Forward (goes 1)) one
      (on 1 0 (Back (again 0)) one (on 0 0 (Forward (goes 0)) one refl))));
}
