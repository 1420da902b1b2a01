-- Changes stand anywhere, and follow one another.
use Rattle.std.specs.Prelude.{ℕ, List, ◌++◌, All, Contains}
use Rattle.teco_changes.specs.Changes.{Changes}
use Rattle.teco_changes.specs.declared.change.Change.{Change}

-- What changes do to a text they can do to it within a longer one.
abbrev pub ChangesStandAnywhere : Type 0
ChangesStandAnywhere =
    (changes : List Change) (front back old new : List ℕ) → Changes changes old new
    → Changes changes (front ++ (old ++ back)) (front ++ (new ++ back))

-- Changes follow one another, and those of a list are among those of a longer one.
abbrev pub ChangesFollow : Type 0
ChangesFollow =
    (changes : List Change) (old between new : List ℕ) → Changes changes old between → Changes changes between new
    → Changes changes old new

abbrev pub ChangesAreAmong : Type 0
ChangesAreAmong =
    (some changes : List Change) (old new : List ℕ) → All (Contains changes) some → Changes some old new
    → Changes changes old new
