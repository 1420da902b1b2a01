-- What is asked of insertions.
use Rattle.std.specs.Prelude.{◌≡◌, ℕ, ◌+◌, ◌+ℤ◌, ◌≤ℤ◌, pos, List, [], ◌∷◌, length}
use Rattle.std.specs.List.{All}
use Rattle.teco_base.specs.Arithmetic.{byte_of}
use Rattle.teco_base.specs.declared.TheConstants.{LIMIT}
use Rattle.teco_linear.specs.declared.term.Term.{Term}
use Rattle.teco_linear.specs.Form.{Valuation, value}
use Rattle.teco_linear.specs.Implied.{Holds}
use Rattle.teco_model.specs.Insertion.{insertion_of}
use Rattle.teco_rows.specs.declared.case.Case.{Case}
use Rattle.teco_rows.specs.declared.outcomes.Outcomes.{Outcomes}
use Rattle.teco_motion_outcomes.specs.Changes.{IsDone}
use Rattle.teco_rows.specs.Foretold.{Begins}
use Rattle.teco_rows.specs.States.{Point, IsTrueOf, code_before}

-- where conditions hold, as many characters more as a form says fit the buffer
abbrev pub HasRoom : List Term → Case → List (List Term) → Type 0
HasRoom long case conditions =
    (n : ℕ) (v : Valuation) (s : Point)
    → IsTrueOf n v case s → All (Holds n v) conditions
    → (pos (length s.kept.text) +ℤ value long n v) ≤ℤ pos LIMIT

-- where it begins so, a text is inserted with no code, and one of the cases describes the state behind
abbrev pub Inserts : List ℕ → Case → Outcomes → Type 0
Inserts new case all =
    (n : ℕ) (v : Valuation) (s : Point) → Begins n v case all s → IsDone n all s (insertion_of new s.kept)

-- where it begins so, any text of one character is,
abbrev pub InsertsAny : Case → Outcomes → Type 0
InsertsAny case all =
    (n : ℕ) (v : Valuation) (s : Point) (new : List ℕ)
    → Begins n v case all s → length new ≡ 1 → IsDone n all s (insertion_of new s.kept)

-- and the byte of the number that a form is
abbrev pub InsertsByte : List Term → Case → Outcomes → Type 0
InsertsByte form case all =
    (n : ℕ) (v : Valuation) (s : Point)
    → Begins n v case all s → IsDone n all s (insertion_of (byte_of (value form n v) ∷ []) s.kept)

-- one more than the code of the last character of a text, or what is there without it
abbrev pub end_code : List ℕ → ℕ → ℕ
end_code [] before = before
end_code (b ∷ []) before = b + 1
end_code (b ∷ c ∷ text) before = end_code (c ∷ text) before

-- a form is one more than the code of the character before the pointer behind a text
abbrev pub IsEndCode : List ℕ → Case → List Term → Type 0
IsEndCode text case form =
    (n : ℕ) (v : Valuation) (s : Point)
    → IsTrueOf n v case s → value form n v ≡ pos (end_code text (code_before s.kept.text s.kept.pointer))
