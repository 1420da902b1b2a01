-- What becomes of the push-down list.
use Rattle.std.specs.Prelude.{◌≡◌, ℕ, pos, List, ◌∷◌}
use Rattle.teco_linear.specs.Form.{Valuation}
use Rattle.teco_model.specs.Going.{after}
use Rattle.teco_model.specs.Registers.{Pair, with_pair}
use Rattle.teco_model.specs.State.{Kept}
use Rattle.teco_model.specs.Storage.{push}
use Rattle.teco_model.specs.laws.Whole.{IsWhole}
use Rattle.std.specs.Prelude.{◌+◌, length}
use Rattle.teco_rows.specs.declared.case.Case.{Case}
use Rattle.teco_rows.specs.declared.row.RowStep.{RowStep}
use Rattle.teco_rows.specs.Cases.{read_with}
use Rattle.teco_rows.specs.Rows.{Holds}
use Rattle.teco_rows.specs.States.{Point, IsTrueOf, Describes, behind, measures_of}

-- Where a row holds from a state to that with this kept and so many pairs pushed, a case describes it.
pub record IsStacked (case : Case) (step : RowStep) (pushes : ℕ) (made : Case) : Type 0 where
  pub describes : (n : ℕ) (v : Valuation) (s : Point) (kept : Kept)
      → IsTrueOf n v case s → s.origin.pushes + pushes ≡ length kept.registers.stack
      → Holds step.clauses.now (read_with step n v (measures_of s) (λ i. pos 0))
      (measures_of (behind s (after kept s.arguments)))
      → Describes n made (behind s (after kept s.arguments))

-- a case describes the state behind [
abbrev pub IsPushed : Case → ℕ → Case → Type 0
IsPushed case register made =
    (n : ℕ) (v : Valuation) (s : Point)
    → IsTrueOf n v case s → IsWhole s.kept
    → Describes n made (behind s (after (push register s.kept) s.arguments))

-- what is kept where a pair is taken off the list into a register
abbrev pub kept_with_popped : ℕ → Pair → List Pair → Kept → Kept
kept_with_popped register pair rest kept =
    record kept { registers = record (with_pair register pair kept.registers) { stack = rest } }

-- a case describes the state behind ], and a pair was pushed
abbrev pub IsPopped : Case → ℕ → Case → Type 0
IsPopped case register made =
    (n : ℕ) (v : Valuation) (s : Point)
    → IsTrueOf n v case s → IsWhole s.kept
    → (pair : Pair) × (rest : List Pair) × (s.kept.registers.stack ≡ pair ∷ rest)
    × Describes n made (behind s (after (kept_with_popped register pair rest s.kept) s.arguments))
