-- Which edge a way takes, by the kind of its element and whether it is the first.
use Rattle.std.specs.Prelude.{ℕ, zero, suc, Bool, true, false, not}
use Rattle.teco_model.specs.declared.kind.Kind.{Kind}
use Rattle.teco_model.specs.declared.kind.Kind.TheVariants as kind
use Rattle.teco_model.specs.declared.kind.Flow.{Flow}
use Rattle.teco_model.specs.declared.kind.Flow.TheVariants as flow

abbrev pub goes_on_by_flow : Flow → Bool → Bool
goes_on_by_flow flow.EndTurn first = not first
goes_on_by_flow flow.Otherwise first = false
goes_on_by_flow flow.GoTo first = false
goes_on_by_flow (flow.GoAhead g) first = false
goes_on_by_flow f first = first

abbrev pub goes_on : Kind → Bool → Bool
goes_on (kind.Flow f) first = goes_on_by_flow f first
goes_on k first = first

-- does it begin turns?
abbrev pub turns_of_flow : Flow → Bool
turns_of_flow flow.Iterate = true
turns_of_flow flow.EndTurn = true
turns_of_flow f = false

abbrev pub turns : Kind → Bool
turns (kind.Flow f) = turns_of_flow f
turns k = false

abbrev pub is_first : ℕ → Bool
is_first zero = true
is_first (suc way) = false
