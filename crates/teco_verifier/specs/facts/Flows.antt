-- Iterations, conditionals and tags: the two edges behind an element, and how many turns an iteration takes.
use Rattle.std.specs.Prelude.{ℕ, zero, suc, ℤ, pos, int_le, ◌&&◌, List, [], ◌∷◌, drop, length, Bool, true, false}
use Rattle.std.specs.Prelude.{Option, Some, None, Result, Ok, Err, option_map, if◌then◌else◌}
use Rattle.teco_model.specs.declared.kind.Flow.{Flow}
use Rattle.teco_model.specs.declared.kind.Flow.TheVariants as flow
use Rattle.teco_poly.specs.Polynomial.{Polynomial, number}
use Rattle.teco_verifier.specs.declared.values.Value.{Value}
use Rattle.teco_verifier.specs.declared.refusal.RefusalReason.{RefusalReason}
use Rattle.teco_verifier.specs.declared.refusal.RefusalReason.TheVariants as refusal
use Rattle.teco_verifier.specs.facts.Arguments.{arguments_of, needed_value, levels_after_taking}
use Rattle.teco_verifier.specs.facts.Attempt.{◌>>=◌}
use Rattle.teco_verifier.specs.facts.Deletions.{positive}
use Rattle.teco_verifier.specs.facts.Facts.{Position, Answer, Iteration, Facts, sum_of, with_arguments}
use Rattle.teco_verifier.specs.facts.Facts.{without_arguments, at_position}
use Rattle.teco_verifier.specs.facts.Joins.{none_pending}
use Rattle.teco_verifier.specs.facts.Values.{interval_of}
use Rattle.teco_verifier.specs.facts.Ways.{Numbers, Negative, NotNegative, holding, other, may_take, Positive}
use Rattle.teco_verifier.specs.facts.Ways.{NotPositive, way}

-- The edges behind an element, where they are reached: on, to what stands behind it, and away, to where it leads else.
pub record Edges : Type 0 where
  pub on : Option Facts
  pub away : Option Facts

abbrev pub goes_on : Facts → Edges
goes_on facts = record { on = Some facts; away = None }

abbrev pub goes_away : Facts → Edges
goes_away facts = record { on = None; away = Some facts }

-- leaving iterations drops them, their falls and all arguments
abbrev pub leaving : ℕ → Facts → Facts
leaving count facts = record (without_arguments facts) {
  position = record facts.position { falls = drop count facts.position.falls };
  iterations = drop count facts.iterations;
}

-- what is taken where a number is needed, and what is known then
abbrev pub facts_taken : Facts → Facts
facts_taken facts = with_arguments (levels_after_taking facts.arguments) facts

abbrev pub needed_taken : Facts → Result Value RefusalReason
needed_taken facts = do
  taken ← arguments_of facts.arguments.level
  needed_value taken.value

-- The most that a value is, as a polynomial: of Z, of the pointer and of both together by what is held, of Z-. by what
-- is ahead, of a value in which neither distance counts positively by its constant, and of any other by its interval;
-- 0 at the least.
abbrev pub bound_by : ℤ → ℤ → ℕ → ℕ → Facts → Result Polynomial RefusalReason
bound_by (pos (suc zero)) (pos (suc zero)) k most facts = sum_of facts.held (number k)
bound_by (pos zero) (pos (suc zero)) k most facts = sum_of facts.held (number k)
bound_by (pos (suc zero)) (pos zero) k most facts = sum_of facts.position.ahead (number k)
bound_by (pos (suc zero)) (pos (suc (suc zero))) k most facts = do
  both ← sum_of facts.held facts.held
  sum_of both (number k)
bound_by ahead behind k most facts =
    Ok (number (if int_le ahead (pos 0) && int_le behind (pos 0) then k else most))

abbrev pub bound_of : Value → Facts → Result Polynomial RefusalReason
bound_of s facts =
    let most = positive (interval_of facts.position.distances s).hi in
    bound_by s.ahead s.behind (positive s.hi) most facts

-- The turns of an iteration: at most its count, or without one what is ahead and one more.
abbrev pub turns_of : Option Value → Facts → Result Polynomial RefusalReason
turns_of (Some n) facts = bound_of n facts
turns_of None facts = sum_of facts.position.ahead (number 1)

abbrev pub turns : Facts → Result Polynomial RefusalReason
turns facts = do
  taken ← arguments_of facts.arguments.level
  turns_of taken.value facts

-- a turn begins: nothing has fallen in it
abbrev pub begun : List (Option ℤ) → Position → Position
begun falls position = record position { falls = Some (pos 0) ∷ falls }

abbrev pub entering : Bool → Facts → Facts
entering counted facts = record facts {
  position = begun facts.position.falls facts.position;
  iterations = record { counted = counted; pushes = length facts.pushes } ∷ facts.iterations;
}

-- < enters its body where there may be a turn, and skips it where there may be none
abbrev pub iteration : Option Value → Facts → Edges
iteration None facts = goes_on (entering false facts)
iteration (Some n) facts =
    let count = interval_of facts.position.distances n in record {
      on = if may_take Positive count then Some (entering true facts) else None;
      away = if may_take NotPositive count then Some facts else None;
    }

abbrev pub iterate : Facts → Result Edges RefusalReason
iterate facts = do
  taken ← arguments_of facts.arguments.level
  alone ← none_pending (levels_after_taking facts.arguments)
  most ← turns_of taken.value facts
  Ok (iteration taken.value (without_arguments facts))

-- > goes back to the begin of the body, and where turns are counted on, too
abbrev pub turn_end : List Iteration → Facts → Result Edges RefusalReason
turn_end [] facts = Err refusal.Partner
turn_end (i ∷ outer) facts =
    let after = without_arguments facts in Ok (record {
      on = if i.counted then Some (leaving 1 facts) else None;
      away = Some (at_position (begun (drop 1 facts.position.falls) facts.position) after);
    })

-- ; and :; leave their iteration where the number is not negative, or where it is
abbrev pub leaving_numbers : ℕ → Numbers
leaving_numbers zero = NotNegative
leaving_numbers (suc colons) = Negative

abbrev pub leave : ℕ → Option Answer → Facts → Result Edges RefusalReason
leave colons answer facts = do
  n ← needed_taken facts
  Ok (record {
    on = way (other (leaving_numbers colons)) answer n (facts_taken facts);
    away = option_map (leaving 1) (way (leaving_numbers colons) answer n (facts_taken facts));
  })

-- a conditional goes on where its test holds
abbrev pub conditional : Numbers → Option Answer → Facts → Result Edges RefusalReason
conditional numbers answer facts = do
  n ← needed_taken facts
  Ok (record {
    on = way numbers answer n (facts_taken facts);
    away = way (other numbers) answer n (facts_taken facts);
  })

-- O goes to its tag, and leaves as many iterations as lie between; an argument is not allowed
abbrev pub without_value : Option Value → Result (Unit {0}) RefusalReason
without_value None = Ok tt
without_value (Some n) = Err refusal.Argument

abbrev pub go_to : ℕ → Facts → Result Edges RefusalReason
go_to leaves facts = do
  taken ← arguments_of facts.arguments.level
  alone ← without_value taken.value
  Ok (goes_away (leaving leaves facts))

abbrev pub flow_edges : Flow → ℕ → ℕ → Option Answer → Facts → Result Edges RefusalReason
flow_edges flow.Iterate colons leaves answer facts = iterate facts
flow_edges flow.EndTurn colons leaves answer facts = turn_end facts.iterations facts
flow_edges flow.Leave colons leaves answer facts = leave colons answer facts
flow_edges (flow.Test test) colons leaves answer facts = conditional (holding test) answer facts
flow_edges flow.Otherwise colons leaves answer facts = Ok (goes_away facts)
flow_edges flow.EndTest colons leaves answer facts = Ok (goes_on facts)
flow_edges flow.GoTo colons leaves answer facts = go_to leaves facts
flow_edges flow.Comment colons leaves answer facts = Ok (goes_on facts)
flow_edges (flow.GoAhead g) colons leaves answer facts = Ok (goes_away facts)
