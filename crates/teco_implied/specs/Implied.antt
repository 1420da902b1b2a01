-- What the constraints of a case imply.
use Rattle.std.specs.Prelude.{ℕ}
use Rattle.std.specs.List.{All}
use Rattle.teco_linear.specs.Implied.{Implies}
use Rattle.teco_rows.specs.declared.case.Case.{Case}
use Rattle.teco_rows.specs.declared.outcomes.Guarded.{Guarded}
use Rattle.teco_rows.specs.declared.outcomes.Outcomes.{Outcomes}
use Rattle.teco_rows.specs.States.{Point, Describes}

-- the constraints of a guarded condition imply it
abbrev pub IsKept : Guarded → Type 0
IsKept guarded = Implies guarded.constraints.items guarded.wanted

-- A case implies the conditions, and each that is guarded is implied by its constraints.
pub record AreMet (case : Case) (all : Outcomes) : Type 0 where
  pub conditions : All (Implies case.constraints.items) all.conditions.items
  pub guarded : All IsKept all.guarded.items

-- no state is as a case says
abbrev pub IsImpossible : Case → Type 0
IsImpossible case = (n : ℕ) (s : Point) → Describes n case s → ⊥
