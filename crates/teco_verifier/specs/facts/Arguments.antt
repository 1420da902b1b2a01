-- What is known of the pending arguments, and what elements do to it: the rules of the machine's arguments, on values.
use Rattle.std.specs.Prelude.{pos, negsuc, List, [], ◌∷◌, map, Bool, false, Option, Some, None, Result, Ok, Err}
use Rattle.std.specs.Prelude.{unwrap_or, int_le, int_lt, ◌||◌, if◌then◌else◌}
use Rattle.std.specs.Option.{ok_or}
use Rattle.teco_base.specs.Arithmetic.{and, or}
use Rattle.teco_model.specs.declared.arguments.Operator.{Operator}
use Rattle.teco_model.specs.declared.arguments.Operator.TheVariants.{Plus, Minus, Times, Over, And, Or}
use Rattle.teco_verifier.specs.declared.values.Value.{Value}
use Rattle.teco_verifier.specs.declared.values.Distances.{Distances}
use Rattle.teco_verifier.specs.declared.refusal.RefusalReason.{RefusalReason}
use Rattle.teco_verifier.specs.declared.refusal.RefusalReason.TheVariants as refusal
use Rattle.teco_verifier.specs.facts.Attempt.{◌>>=◌}
use Rattle.teco_verifier.specs.facts.Values.{single, value_in, interval_of, sum, difference, product, quotient, bitwise}

-- a level, with what is known of its values
pub record KnownLevel : Type 0 where
  pub first : Option Value
  pub value : Option Value
  pub operator : Option Operator

-- the innermost level, and the levels outside it from the inside out
pub record KnownArguments : Type 0 where
  pub level : KnownLevel
  pub outer : List KnownLevel

-- what is known of the arguments that a command takes
pub record KnownTaken : Type 0 where
  pub first : Option Value
  pub value : Option Value

abbrev pub empty_level : KnownLevel
empty_level = record { first = None; value = None; operator = None }

abbrev pub no_arguments : KnownArguments
no_arguments = record { level = empty_level; outer = [] }

-- a quotient, where the divisor cannot be 0
abbrev pub quotient_of : Distances → Value → Value → Result Value RefusalReason
quotient_of distances s t =
    if int_lt (pos 0) (interval_of distances t).lo || int_lt (interval_of distances t).hi (pos 0)
    then Ok (quotient distances s t) else Err refusal.Divisor

-- what an operator makes of two values
abbrev pub result_of : Distances → Operator → Value → Value → Result Value RefusalReason
result_of distances Plus s t = Ok (sum distances s t)
result_of distances Minus s t = Ok (difference distances s t)
result_of distances Times s t = Ok (product distances s t)
result_of distances Over s t = quotient_of distances s t
result_of distances And s t = Ok (bitwise and (interval_of distances s) (interval_of distances t))
result_of distances Or s t = Ok (bitwise or (interval_of distances s) (interval_of distances t))

-- giving a value: a pending operator is applied to the value, or 0 where there is none; else the value is replaced
abbrev pub value_with : Distances → Value → Option Value → Option Operator → Result Value RefusalReason
value_with distances s value None = Ok s
value_with distances s value (Some operator) =
    result_of distances operator (unwrap_or value (single (pos 0))) s

abbrev pub level_with : Distances → Value → KnownLevel → Result KnownLevel RefusalReason
level_with distances s level = do
  given ← value_with distances s level.value level.operator
  Ok (record { first = level.first; value = Some given; operator = None })

-- an operator becomes pending, but not after a pending one
abbrev pub operator_after : Operator → Option Operator → Result (Option Operator) RefusalReason
operator_after operator None = Ok (Some operator)
operator_after operator (Some pending) = Err refusal.Argument

abbrev pub level_with_operator : Operator → KnownLevel → Result KnownLevel RefusalReason
level_with_operator operator level = do
  pending ← operator_after operator level.operator
  Ok (record { first = level.first; value = level.value; operator = pending })

-- finishing a level: a pending - or + without a value gives -1 or 1, and no other operator may be pending
abbrev pub value_at_end : Option Value → Option Operator → Result (Option Value) RefusalReason
value_at_end value None = Ok value
value_at_end None (Some Minus) = Ok (Some (single (negsuc 0)))
value_at_end None (Some Plus) = Ok (Some (single (pos 1)))
value_at_end value (Some operator) = Err refusal.Argument

abbrev pub final_value : KnownLevel → Result (Option Value) RefusalReason
final_value level = value_at_end level.value level.operator

-- what may become a first value: it is there, and cannot be negative
abbrev pub first_value : Distances → Option Value → Result Value RefusalReason
first_value distances None = Err refusal.Argument
first_value distances (Some s) = if int_le (pos 0) (interval_of distances s).lo
    then Ok s else Err refusal.Argument

-- comma: the value of the finished level becomes its first value, where none is there
abbrev pub no_first : Option Value → Result (Unit {0}) RefusalReason
no_first None = Ok tt
no_first (Some s) = Err refusal.Argument

abbrev pub level_after_comma : Distances → KnownLevel → Result KnownLevel RefusalReason
level_after_comma distances level = do
  alone ← no_first level.first
  value ← final_value level
  first ← first_value distances value
  Ok (record { first = Some first; value = None; operator = None })

-- two values with a comma between them
abbrev pub level_with_pair : Distances → Value → Value → KnownLevel → Result KnownLevel RefusalReason
level_with_pair distances s t level = do
  first ← level_with distances s level
  parted ← level_after_comma distances first
  level_with distances t parted

-- the arguments with another innermost level
abbrev pub with_level : KnownArguments → Result KnownLevel RefusalReason → Result KnownArguments RefusalReason
with_level arguments changed = do
  level ← changed
  Ok (record arguments { level = level })

-- an opening parenthesis begins an empty level
abbrev pub levels_after_open : KnownArguments → KnownArguments
levels_after_open arguments = record { level = empty_level; outer = arguments.level ∷ arguments.outer }

-- a closing one finishes its level, and gives the value to the level outside
abbrev pub inner_value : KnownLevel → Result Value RefusalReason
inner_value level = do
  alone ← no_first level.first
  value ← final_value level
  ok_or value refusal.Argument

abbrev pub levels_closed_onto : Distances → KnownLevel → List KnownLevel → Result KnownArguments RefusalReason
levels_closed_onto distances level [] = Err refusal.Argument
levels_closed_onto distances level (outside ∷ outer) = do
  value ← inner_value level
  given ← level_with distances value outside
  Ok (record { level = given; outer = outer })

-- taking: the level is finished, and becomes empty
abbrev pub arguments_from : Option Value → Option Value → Result KnownTaken RefusalReason
arguments_from (Some first) None = Err refusal.Argument
arguments_from first value = Ok (record { first = first; value = value })

abbrev pub arguments_of : KnownLevel → Result KnownTaken RefusalReason
arguments_of level = do
  value ← final_value level
  arguments_from level.first value

abbrev pub levels_after_taking : KnownArguments → KnownArguments
levels_after_taking arguments = record arguments { level = empty_level }

-- the levels after a command's answer, if it gives one
abbrev pub levels_after_answer : Option Value → KnownArguments → KnownArguments
levels_after_answer None arguments = arguments
levels_after_answer (Some s) arguments = record arguments { level = record empty_level { value = Some s } }

-- the value that stands, with no operator behind it
abbrev pub value_beside : Option Operator → Option Value → Option Value
value_beside None value = value
value_beside (Some operator) value = None

abbrev pub standing_value : KnownLevel → Option Value
standing_value level = value_beside level.operator level.value

-- an argument that a command needs
abbrev pub needed_value : Option Value → Result Value RefusalReason
needed_value value = ok_or value refusal.Argument

-- Where Z or the pointer may change, linear values that are pending become intervals; where all that is saved is ended,
-- so do saved values.
abbrev pub settled_value : Distances → Bool → Option Value → Option Value
settled_value distances ends None = None
settled_value distances ends (Some s) =
    Some (record (value_in (interval_of distances s)) { saved = if ends then false else s.saved })

abbrev pub settled_level : Distances → Bool → KnownLevel → KnownLevel
settled_level distances ends level = record {
  first = settled_value distances ends level.first;
  value = settled_value distances ends level.value;
  operator = level.operator;
}

abbrev pub settled : Distances → Bool → KnownArguments → KnownArguments
settled distances ends arguments = record {
  level = settled_level distances ends arguments.level;
  outer = map (settled_level distances ends) arguments.outer;
}
