-- Values satisfy a program where each row holds of them in exact whole numbers: the numerators stand for the values,
-- and the bound is taken times their common denominator.
use Rattle.std.specs.Prelude.{◌≡◌, ℕ, ◌<◌, ℤ, pos, ◌+ℤ◌, ◌*ℤ◌, ◌<ℤ◌, ◌≤ℤ◌, List, length, fold, slice_index_or, All}
use Rattle.teco_simplex.specs.declared.program.Summand.{Summand}
use Rattle.teco_simplex.specs.declared.program.Condition.{Condition}
use Rattle.teco_simplex.specs.declared.program.Assignment.{Assignment}
use Rattle.teco_simplex.specs.declared.program.LinearProgram.{LinearProgram}
use Rattle.teco_simplex.specs.declared.program.Sign.{Sign}
use Rattle.teco_simplex.specs.declared.program.Sign.TheVariants.{NonNegative, Free}
use Rattle.teco_simplex.specs.declared.program.Relation.{Relation}
use Rattle.teco_simplex.specs.declared.program.Relation.TheVariants.{Equal, AtLeast, AtMost}
use Rattle.teco_simplex.specs.declared.program.SolverAnswer.{SolverAnswer}
use Rattle.teco_simplex.specs.declared.program.SolverAnswer.TheVariants.{Found, Infeasible, Unbounded}

-- a sum with the value of one more term
abbrev pub added : List ℤ → ℤ → Summand → ℤ
added numerators sum term = sum +ℤ (term.coefficient *ℤ slice_index_or numerators term.variable (pos 0))

-- the sum of the terms at the numerators
abbrev pub total_of : List Summand → List ℤ → ℤ
total_of terms numerators = fold (added numerators) (pos 0) terms

abbrev pub Stands : Relation → ℤ → ℤ → Type 0
Stands Equal sum bound = sum ≡ bound
Stands AtLeast sum bound = bound ≤ℤ sum
Stands AtMost sum bound = sum ≤ℤ bound

abbrev pub Holds : Condition → Assignment → Type 0
Holds row values =
    Stands row.relation (total_of row.terms.items values.numerators.items) (row.bound *ℤ values.denominator)

abbrev pub HasSign : Sign → ℤ → Type 0
HasSign NonNegative numerator = pos 0 ≤ℤ numerator
HasSign Free numerator = Unit {0}

-- each numerator has the sign that is wanted at its place
abbrev pub HaveSigns : List Sign → List ℤ → Type 0
HaveSigns signs numerators =
    (k : ℕ) → k < length signs → HasSign (slice_index_or signs k Free) (slice_index_or numerators k (pos 0))

pub record Satisfies (program : LinearProgram) (values : Assignment) : Type 0 where
  pub positive : pos 0 <ℤ values.denominator
  pub complete : length values.numerators.items ≡ length program.signs.items
  pub signs : HaveSigns program.signs.items values.numerators.items
  pub rows : All (λ row. Holds row values) program.rows.items

-- what an answer says that is checked
abbrev pub IsSatisfying : LinearProgram → SolverAnswer → Type 0
IsSatisfying program (Found values) = Satisfies program values
IsSatisfying program Infeasible = Unit {0}
IsSatisfying program Unbounded = Unit {0}
