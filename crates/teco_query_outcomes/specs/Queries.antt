-- What is asked of elements that ask for a value.
use Rattle.std.specs.Prelude.{◌≡◌, ℕ, Bool, is_some}
use Rattle.teco_linear.specs.Form.{Valuation}
use Rattle.teco_model.specs.Arguments.{standing_value}
use Rattle.teco_model.specs.Element.{Element}
use Rattle.teco_model.specs.Step.{after_query}
use Rattle.teco_model.specs.declared.kind.Query.{Query}
use Rattle.teco_rows.specs.declared.case.Case.{Case}
use Rattle.teco_rows.specs.declared.outcomes.Outcomes.{Outcomes}
use Rattle.teco_rows.specs.Foretold.{Foretells}
use Rattle.teco_rows.specs.States.{Point, IsTrueOf}

-- an element with so many colons asks, and that is foretold
abbrev pub Asks : Query → ℕ → Case → Outcomes → Type 0
Asks query colons case all =
    (e : Element) → e.colons ≡ colons → Foretells (λ s. after_query query e s.kept s.arguments) case all

-- the answer is whether a value stands
abbrev pub Stands : Bool → Case → Type 0
Stands answer case =
    (n : ℕ) (v : Valuation) (s : Point)
    → IsTrueOf n v case s → is_some (standing_value s.arguments.level) ≡ answer
