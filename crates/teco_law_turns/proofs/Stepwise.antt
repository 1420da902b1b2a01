-- Runs over small tables, whose elements take one step each: a move, and then the rest of the run.
use Rattle.std.proofs.Common.{ℕ, suc, ◌≤◌, List, arith}
use Rattle.teco_law_turns.specs.Table.{Table}
use Rattle.teco_law_turns.specs.Moves.{State, OpenLoop, Move, RunTakes}

abbrev pub at_node : ℕ → ℕ → ℕ → List OpenLoop → State
at_node i held ahead opened = record { node = i; held = held; ahead = ahead; opened = opened }

pub record Run (t : Table) (moves : ℕ) (s : State) (n : ℕ) : Type 0 where
  pub takes : RunTakes t moves s n
  pub own : (i : ℕ) → 1 ≤ t.own i

pub stop : {t : Table} (i held ahead : ℕ) (opened : List OpenLoop) → ((i : ℕ) → 1 ≤ t.own i)
    → Run t 0 (at_node i held ahead opened) 1
stop {t = t} i held ahead opened own = record { takes = omega (arith, own i); own = own }

infixr 5 ◌before◌
pub ◌before◌ : {t : Table} {i held ahead : ℕ} {opened : List OpenLoop} {new : State} {moves n : ℕ}
    → Move t (at_node i held ahead opened) new → Run t moves new n
    → Run t (suc moves) (at_node i held ahead opened) (suc n)
◌before◌ {t = t} {i = i} {held = held} {ahead = ahead} {opened = opened} {new = new} {moves = moves} {n = n} move run =
    record {
      takes = (new, 1, n, move, omega (arith, run.own i), run.takes, omega arith);
      own = run.own;
    }
