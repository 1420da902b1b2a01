-- Why a closed table says what it says: two tables that lack one thing each, and runs past what is printed of them.
use Rattle.std.specs.Prelude.{true, ◌≡◌, ℕ, zero, suc, ◌+◌, ◌-◌, ◌*◌, ◌<◌, ◌≤◌, ℤ, pos, negsuc, List, [], ◌∷◌, Option}
use Rattle.std.specs.Prelude.{Some, None, ◌⊎◌}
use Rattle.std.specs.List.{AllByRecursion}
use Rattle.teco_law_turns.specs.Table.{Table, IsNested, IsKept, IsLost, commands}
use Rattle.teco_law_turns.specs.Moves.{State, IsStart, RunTakes}

-- A kept loop wants an own fall of at least 0. A loop without a count goes 2 ahead, and in it another one goes back by
-- 1, two times: all else that a closed table says holds there, and runs go on without end.

-- nodes 0 and 5 are the outer loop, 2 and 4 the inner one; node 1 goes 2 ahead, node 3 goes back by 1
abbrev pub rising_loops : ℕ → List ℕ
rising_loops zero = []
rising_loops (suc zero) = 0 ∷ []
rising_loops (suc (suc zero)) = 0 ∷ []
rising_loops (suc (suc (suc zero))) = 2 ∷ 0 ∷ []
rising_loops (suc (suc (suc (suc zero)))) = 2 ∷ 0 ∷ []
rising_loops (suc (suc (suc (suc (suc zero))))) = 0 ∷ []
rising_loops (suc (suc (suc (suc (suc (suc n)))))) = []

abbrev pub rising_end : ℕ → ℕ
rising_end zero = 5
rising_end (suc zero) = 1
rising_end (suc (suc zero)) = 4
rising_end (suc (suc (suc n))) = suc (suc (suc n))

-- what is ahead can be 2 at most, so the outer loop takes 3 turns; the inner one takes 2
abbrev pub rising_turns : ℕ → ℕ
rising_turns zero = 3
rising_turns (suc l) = 2

-- the falls for the outer loop, and for the inner one
abbrev pub rising_fall : ℕ → ℕ → Option ℤ
rising_fall (suc (suc zero)) l = Some (pos 2)
rising_fall (suc (suc (suc zero))) zero = Some (pos 2)
rising_fall (suc (suc (suc zero))) (suc l) = Some (pos 0)
rising_fall (suc (suc (suc (suc zero)))) zero = Some (pos 1)
rising_fall (suc (suc (suc (suc zero)))) (suc l) = Some (negsuc 0)
rising_fall (suc (suc (suc (suc (suc zero))))) l = Some (pos 1)
rising_fall i l = Some (pos 0)

abbrev pub rising : Table
rising = record {
  size = 7;
  reached = λ i. true;
  own = λ i. 1;
  loops = rising_loops;
  end = rising_end;
  turns = rising_turns;
  growth = λ l. 0;
  held_most = λ i. 2;
  ahead_most = λ i. 2;
  fall = rising_fall;
}

abbrev pub rising_start : State
rising_start = record { node = 0; held = 2; ahead = 2; opened = [] }

-- what a closed table says of a kept loop, but for the own fall
pub record IsClosedButForFall (t : Table) (l : ℕ) : Type 0 where
  pub nested : IsNested t l
  pub room : t.held_most l + (t.turns l - 1) * t.growth l ≤ t.held_most (suc l)
  pub grows : t.held_most (t.end l) ≤ t.held_most (suc l) + t.growth l
  pub fresh : t.fall (suc l) l ≡ Some (pos 0)
  pub ahead : t.ahead_most l ≤ t.ahead_most (suc l)
  pub falls : AllByRecursion (λ o. t.fall (suc l) o ≡ t.fall l o) (t.loops l)

-- runs take any number of steps
pub record OwnFallIsNeeded : Type 0 where
  pub closed : (l : ℕ) → l < rising_end l → IsClosedButForFall rising l
  pub start : IsStart rising rising_start
  pub endless : (n : ℕ) → (moves : ℕ) × (steps : ℕ) × RunTakes rising moves rising_start steps × (n ≤ steps)

-- A loop wants that what is held grows by no more than its growth. A loop takes two turns; in it another one takes no
-- more turns than there is ahead, and one, and then 5 are put in. The growth is said to be 0.

-- nodes 0 and 5 are the outer loop, 1 and 3 the inner one; node 2 goes 1 ahead, node 4 puts in
abbrev pub grown_loops : ℕ → List ℕ
grown_loops zero = []
grown_loops (suc zero) = 0 ∷ []
grown_loops (suc (suc zero)) = 1 ∷ 0 ∷ []
grown_loops (suc (suc (suc zero))) = 1 ∷ 0 ∷ []
grown_loops (suc (suc (suc (suc zero)))) = 0 ∷ []
grown_loops (suc (suc (suc (suc (suc zero))))) = 0 ∷ []
grown_loops (suc (suc (suc (suc (suc (suc n)))))) = []

abbrev pub grown_end : ℕ → ℕ
grown_end zero = 5
grown_end (suc zero) = 3
grown_end (suc (suc n)) = suc (suc n)

-- at the inner loop nothing is ahead, as the table has it, so it takes one turn
abbrev pub grown_turns : ℕ → ℕ
grown_turns zero = 2
grown_turns (suc l) = 1

abbrev pub grown_ahead : ℕ → ℕ
grown_ahead (suc zero) = 0
grown_ahead i = 5

abbrev pub grown_held : ℕ → ℕ
grown_held (suc (suc (suc (suc (suc n))))) = 5
grown_held i = 0

abbrev pub grown_fall : ℕ → ℕ → Option ℤ
grown_fall (suc (suc (suc zero))) (suc l) = Some (pos 1)
grown_fall (suc (suc (suc (suc (suc n))))) l = None
grown_fall i l = Some (pos 0)

abbrev pub grown : Table
grown = record {
  size = 7;
  reached = λ i. true;
  own = λ i. 1;
  loops = grown_loops;
  end = grown_end;
  turns = grown_turns;
  growth = λ l. 0;
  held_most = grown_held;
  ahead_most = grown_ahead;
  fall = grown_fall;
}

abbrev pub grown_start : State
grown_start = record { node = 0; held = 0; ahead = 0; opened = [] }

-- what a closed table says of a loop, but for what it grows in a turn
pub record IsClosedButForGrowth (t : Table) (l : ℕ) : Type 0 where
  pub nested : IsNested t l
  pub room : t.held_most l + (t.turns l - 1) * t.growth l ≤ t.held_most (suc l)
  pub fresh : t.fall (suc l) l ≡ Some (pos 0)
  pub outside : IsKept t l ⊎ IsLost t l

-- twelve steps are printed, and a run takes 17
pub record GrowthIsNeeded : Type 0 where
  pub closed : (l : ℕ) → l < grown_end l → IsClosedButForGrowth grown l
  pub start : IsStart grown grown_start
  pub printed : commands grown ≡ 12
  pub takes : RunTakes grown 16 grown_start 17
