-- A loop of three turns round one command, with a node behind it: a run that takes all the steps that are printed.
use Rattle.std.specs.Prelude.{true, ◌≡◌, ℕ, zero, suc, pos, List, [], ◌∷◌, Some}
use Rattle.teco_law_turns.specs.Table.{Table, IsClosed, commands}
use Rattle.teco_law_turns.specs.Moves.{State, Enters, IsStart, RunTakes}
use Rattle.teco_law_turns.specs.Turns.{Repeats}

-- node 0 begins the loop, node 1 is its command, node 2 its end, node 3 stands behind it
abbrev pub worked_loops : ℕ → List ℕ
worked_loops zero = []
worked_loops (suc zero) = 0 ∷ []
worked_loops (suc (suc zero)) = 0 ∷ []
worked_loops (suc (suc (suc n))) = []

abbrev pub worked_end : ℕ → ℕ
worked_end zero = 2
worked_end (suc n) = suc n

abbrev pub worked : Table
worked = record {
  size = 4;
  reached = λ i. true;
  own = λ i. 1;
  loops = worked_loops;
  end = worked_end;
  turns = λ l. 3;
  growth = λ l. 0;
  held_most = λ i. 2;
  ahead_most = λ i. 1;
  fall = λ i l. Some (pos 0);
}

abbrev pub worked_start : State
worked_start = record { node = 0; held = 2; ahead = 1; opened = [] }

-- at the start of the first turn two more come
abbrev pub worked_inside : State
worked_inside = record { node = 1; held = 2; ahead = 1; opened = record { begin = 0; more = Some 2 } ∷ [] }

-- eight steps are printed and taken, in seven moves and the last element; behind the first turn two more begin
pub record WorkedIsTight : Type 0 where
  pub closed : IsClosed worked
  pub start : IsStart worked worked_start
  pub eight : commands worked ≡ 8
  pub takes : RunTakes worked 7 worked_start (commands worked)
  pub enters : Enters worked worked_start worked_inside
  pub repeats : Repeats worked 1 5 worked_inside 2
