-- What is asked of motions by lines.
use Rattle.std.specs.Prelude.{ℕ, ℤ, List, None}
use Rattle.teco_base.specs.Lines.{line_place}
use Rattle.teco_linear.specs.declared.term.Term.{Term}
use Rattle.teco_linear.specs.Form.{Valuation, value}
use Rattle.teco_rows.specs.declared.case.Case.{Case}
use Rattle.teco_rows.specs.declared.outcomes.Outcomes.{Outcomes}
use Rattle.teco_rows.specs.Commands.{commanded}
use Rattle.teco_rows.specs.Foretold.{Begins, Describe}
use Rattle.teco_rows.specs.States.{Point}

-- the state behind a motion to the line place of a number
abbrev pub gone_by : ℤ → Point → Point
gone_by by s = commanded s (record s.kept { pointer = line_place s.kept.text s.kept.pointer by }) None

-- where it begins so, one of the cases describes the state behind a motion by so many lines,
abbrev pub GoesBy : ℤ → Case → Outcomes → Type 0
GoesBy by case all = (n : ℕ) (v : Valuation) (s : Point) → Begins n v case all s → Describe n all (gone_by by s)

-- and by as many as a form says
abbrev pub GoesLines : List Term → Case → Outcomes → Type 0
GoesLines form case all =
    (n : ℕ) (v : Valuation) (s : Point) → Begins n v case all s → Describe n all (gone_by (value form n v) s)
