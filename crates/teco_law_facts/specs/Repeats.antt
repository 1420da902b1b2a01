-- An element that stays where it began for some steps, with fewer to come after each, and ends.
use Rattle.std.specs.Prelude.{◌≡◌, ℕ, ◌+◌, ◌≤◌, ◌⊎◌}
use Rattle.teco_model.specs.State.{State, Outcome, Next}
use Rattle.teco_model.specs.Step.{step}

-- A step ends an element, or leaves fewer than so many steps of it to come.
abbrev pub Advances : (ℕ → State → Type 0) → (State → Type 0) → ℕ → Outcome → Type 0
Advances Stays Quits most (Next new) =
    ((1 ≤ most) × Quits new) ⊎ ((rest : ℕ) × (rest + 1 ≤ most) × Stays rest new)
Advances Stays Quits most outcome = ⊥

-- A state is the one in which an element began, or stays there with so many steps to come.
abbrev pub IsAt : (ℕ → State → Type 0) → State → State → Type 0
IsAt Stays s now = (now ≡ s) ⊎ ((rest : ℕ) × Stays rest now)

-- The first step of an element advances, and so does each step from where it stays.
pub record Repeats (Stays : ℕ → State → Type 0) (Quits : State → Type 0) (most : ℕ) (s : State) : Type 0 where
  pub first : Advances Stays Quits most (step s)
  pub later : (rest : ℕ) (now : State) → Stays rest now → Advances Stays Quits rest (step now)
