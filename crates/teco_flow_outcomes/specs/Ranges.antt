-- Ways by a number: the ranges that it may be in.
use Rattle.std.specs.Prelude.{◌≡◌, ℕ, ℤ, ◌≤ℤ◌, List, Option, Some, None, ⊤, ◌⊎◌}
use Rattle.std.specs.List.{Any}
use Rattle.teco_linear.specs.declared.term.Term.{Term}
use Rattle.teco_linear.specs.Form.{Valuation, value}
use Rattle.teco_rows.specs.declared.case.Case.{Case}
use Rattle.teco_rows.specs.declared.measure.Measure.{Measure}
use Rattle.teco_flow_outcomes.specs.declared.ranges.NumberRange.{NumberRange}
use Rattle.teco_flow_outcomes.specs.declared.ranges.NumberRange.TheVariants as range
use Rattle.teco_flow_outcomes.specs.declared.ranges.Ranges.{Ranges}
use Rattle.teco_rows.specs.declared.row.Clause.{Clause}
use Rattle.teco_rows.specs.Commands.{commanded}
use Rattle.teco_rows.specs.Rows.{Before, AreMet, changed}
use Rattle.teco_rows.specs.States.{Point, IsTrueOf, Describes}

-- a number is in a range
abbrev pub IsIn : NumberRange → ℤ → Type 0
IsIn range.Any x = ⊤
IsIn (range.From least) x = least ≤ℤ x
IsIn (range.UpTo most) x = x ≤ℤ most
IsIn (range.Between least most) x = (least ≤ℤ x) × (x ≤ℤ most)

abbrev pub IsInOther : Option NumberRange → ℤ → Type 0
IsInOther None x = ⊥
IsInOther (Some range) x = IsIn range x

-- a number is in the one range or the other
abbrev pub IsInOne : Ranges → ℤ → Type 0
IsInOne ranges x = IsIn ranges.one x ⊎ IsInOther ranges.other x

-- a row wants that the number that is given is in a range, and changes nothing
abbrev pub Says : NumberRange → List Clause → Type 0
Says range row =
    (b : Before) → IsIn range (b.given 0) → AreMet row b × ((m : Measure) (x : Option ℤ) → changed row b m x ≡ x)

-- where the form is in a range, a case describes the state behind a command that takes its arguments and does no more
abbrev pub IsBehindIn : Case → NumberRange → List Term → Case → Type 0
IsBehindIn case range form made =
    (n : ℕ) (v : Valuation) (s : Point)
    → IsTrueOf n v case s → IsIn range (value form n v) → Describes n made (commanded s s.kept None)

-- where it is in one of two, one of the cases does
abbrev pub AreBehindIn : Case → Ranges → List Term → List Case → Type 0
AreBehindIn case ranges form cases =
    (n : ℕ) (v : Valuation) (s : Point)
    → IsTrueOf n v case s → IsInOne ranges (value form n v)
    → Any (λ made. Describes n made (commanded s s.kept None)) cases
