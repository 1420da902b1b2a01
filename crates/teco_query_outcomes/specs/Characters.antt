-- What is asked of nA.
use Rattle.std.specs.Prelude.{ℕ, ℤ, List, Some}
use Rattle.teco_linear.specs.declared.term.Term.{Term}
use Rattle.teco_linear.specs.Form.{Valuation, value}
use Rattle.teco_model.specs.Character.{character}
use Rattle.teco_rows.specs.declared.case.Case.{Case}
use Rattle.teco_rows.specs.declared.outcomes.Outcomes.{Outcomes}
use Rattle.teco_rows.specs.Commands.{commanded}
use Rattle.teco_rows.specs.Foretold.{Begins, Describe}
use Rattle.teco_rows.specs.States.{Point}

-- where it begins so, one of the cases describes the state behind the answer with the code of the character so far from
-- the pointer,
abbrev pub AnswersCode : ℤ → Case → Outcomes → Type 0
AnswersCode by case all =
    (n : ℕ) (v : Valuation) (s : Point)
    → Begins n v case all s → Describe n all (commanded s s.kept (Some (character by s.kept)))

-- or as far as a form says
abbrev pub GivesCharacter : List Term → Case → Outcomes → Type 0
GivesCharacter form case all =
    (n : ℕ) (v : Valuation) (s : Point)
    → Begins n v case all s → Describe n all (commanded s s.kept (Some (character (value form n v) s.kept)))
