-- Pending numbers fit 32 bits where so much is assumed, and the codes of arguments.
use Rattle.teco_model.proofs.Prelude.{ℕ, zero, suc, arith, w32, FitsSigned, ℤ, pos, negsuc, List, [], ◌∷◌, Option, Some}
use Rattle.teco_model.proofs.Prelude.{None, IfSome, ok_or, Result, Ok, ints, SFits-int_wrap, Code, Arguments}
use Rattle.teco_model.proofs.Prelude.{no_arguments, levels_after_taking, levels_after_answer, arguments_of}
use Rattle.teco_model.proofs.Prelude.{standing_value, ◌>>=◌, Kept, Taken, IsWhole}
use Rattle.teco_base.specs.Arithmetic.{div}
use Rattle.teco_base.specs.declared.code.Code.TheVariants as code
use Rattle.teco_model.proofs.Coded.{Coded, Yields, yields_then, yields_any}
use Rattle.teco_model.specs.Arguments.{result_of, value_with, level_with, operator_after}
use Rattle.teco_model.specs.Arguments.{level_with_operator, level_after_comma, level_with_pair, value_at_end}
use Rattle.teco_model.specs.Arguments.{first_value, no_first, final_value, inner_value, with_level, levels_closed_onto}
use Rattle.teco_model.specs.Arguments.{arguments_from}
use Rattle.teco_model.specs.Arguments.{value_beside}
use Rattle.teco_model.specs.Effect.{needed_value}
use Rattle.teco_model.specs.Step.{levels_after, level_with_value}
use Rattle.teco_model.specs.declared.arguments.Level.{Level}
use Rattle.teco_model.specs.declared.arguments.Operator.{Operator}
use Rattle.teco_model.specs.declared.arguments.Operator.TheVariants.{Plus, Minus, Times, Over, And, Or}
use Rattle.teco_model.specs.declared.kind.Argument.{Argument}
use Rattle.teco_model.specs.declared.kind.Argument.TheVariants.{DropAll, Digits, Operate, Open, Close, Comma}
use Rattle.teco_model.specs.declared.kind.MachineValue.{MachineValue}
use Rattle.teco_model.specs.declared.kind.MachineValue.TheVariants.{Begin, Size, Pointer, Whole, LastLength, LastText}
use Rattle.teco_model.specs.laws.Whole.{IsWholeLevel, AreWholeArguments}

-- the arguments that a command took
pub record IsWholeTaken (taken : Taken) : Type 0 where
  pub first : IfSome taken.first (FitsSigned w32)
  pub value : IfSome taken.value (FitsSigned w32)

no_first_coded : (o : Option ℤ) → Coded (no_first o)
no_first_coded None = tt
no_first_coded (Some v) = tt

module _ (H : Type 0) where
  abbrev pub Fits : ℤ → Type 0
  Fits v = H → FitsSigned w32 v

  abbrev pub FitsIfSome : Option ℤ → Type 0
  FitsIfSome o = H → IfSome o (FitsSigned w32)

  abbrev pub IsLevel : Level → Type 0
  IsLevel level = H → IsWholeLevel level

  abbrev pub AreArguments : Arguments → Type 0
  AreArguments arguments = H → AreWholeArguments arguments

  abbrev pub IsTaken : Taken → Type 0
  IsTaken taken = H → IsWholeTaken taken

  pub no_arguments_fit : AreArguments no_arguments
  no_arguments_fit h = record { level = record { first = tt; value = tt }; outer = tt }

  quotient_fits : (x y : ℤ) → Yields Fits (ok_or (div x y) code.Div)
  quotient_fits x (pos zero) = tt
  quotient_fits x (pos (suc n)) = λ h. SFits-int_wrap w32 _
  quotient_fits x (negsuc n) = λ h. SFits-int_wrap w32 _

  result_fits : (operator : Operator) (x y : ℤ) → Yields Fits (result_of operator x y)
  result_fits Over x y = quotient_fits x y
  result_fits And x y = λ h. omega (arith, ints)
  result_fits Or x y = λ h. omega (arith, ints)
  result_fits operator x y = λ h. SFits-int_wrap w32 _

  given_fits : (v : ℤ) (value : Option ℤ) (operator : Option Operator) → Fits v
      → Yields Fits (value_with v value operator)
  given_fits v value None f = f
  given_fits v value (Some operator) f = result_fits operator _ v

  pub given : (v : ℤ) (level : Level) → Fits v → IsLevel level → Yields IsLevel (level_with v level)
  given v level f l = yields_then Fits IsLevel _ _ (given_fits v level.value level.operator f)
      (λ given g h. record { first = (l h).first; value = g h })

  ended_fits : (value : Option ℤ) (operator : Option Operator) → FitsIfSome value
      → Yields FitsIfSome (value_at_end value operator)
  ended_fits value None f = f
  ended_fits None (Some Minus) f = λ h. omega (arith, ints)
  ended_fits None (Some Plus) f = λ h. omega (arith, ints)
  ended_fits None (Some Times) f = tt
  ended_fits None (Some Over) f = tt
  ended_fits None (Some And) f = tt
  ended_fits None (Some Or) f = tt
  ended_fits (Some v) (Some operator) f = tt

  final_fits : (level : Level) → IsLevel level → Yields FitsIfSome (final_value level)
  final_fits level l = ended_fits level.value level.operator (λ h. (l h).value)

  first_fits : (value : Option ℤ) → FitsIfSome value → Yields Fits (first_value value)
  first_fits None f = tt
  first_fits (Some (pos n)) f = f
  first_fits (Some (negsuc n)) f = tt

  parted : (level : Level) → IsLevel level → Yields IsLevel (level_after_comma level)
  parted level l = yields_any IsLevel _ _ (no_first_coded level.first)
      (λ alone. yields_then FitsIfSome IsLevel _ _ (final_fits level l)
      (λ value f. yields_then Fits IsLevel _ _ (first_fits value f) (λ first g h. record { first = g h; value = tt })))

  pair_given : (x y : ℤ) (level : Level) → Fits x → Fits y → IsLevel level → Yields IsLevel (level_with_pair x y level)
  pair_given x y level f g l = yields_then IsLevel IsLevel _ _ (given x level f l)
      (λ first i. yields_then IsLevel IsLevel _ _ (parted first i) (λ parted j. given y parted g j))

  -- ---- the arguments
  pub leveled : (arguments : Arguments) (r : Result Level Code) → AreArguments arguments → Yields IsLevel r
      → Yields AreArguments (with_level arguments r)
  leveled arguments r a i = yields_then IsLevel AreArguments r _ i
      (λ level j h. record { level = j h; outer = (a h).outer })

  pub needed : (o : Option ℤ) → FitsIfSome o → Yields Fits (needed_value o)
  needed None f = tt
  needed (Some v) f = f

  closed : (level : Level) (outer : List Level) → AreArguments (record { level = level; outer = outer })
      → Yields AreArguments (levels_closed_onto level outer)
  closed level [] a = tt
  closed level (outside ∷ outer) a =
      yields_then Fits AreArguments _ _ inner
      (λ value f. yields_then IsLevel AreArguments _ _ (given value outside f (λ h. (a h).outer.0))
      (λ given g h. record { level = g h; outer = (a h).outer.1 })) where
        inner : Yields Fits (inner_value level)
        inner = yields_any Fits _ _ (no_first_coded level.first)
            (λ alone. yields_then FitsIfSome Fits _ _ (final_fits level (λ h. (a h).level)) (λ value f. needed value f))

  operated : (operator : Operator) (level : Level) → IsLevel level → Yields IsLevel (level_with_operator operator level)
  operated operator level l = by level.operator where
    by : (o : Option Operator) → Yields IsLevel (operator_after operator o >>= λ pending.
        Ok (record { first = level.first; value = level.value; operator = pending }))
    by None = λ h. record { first = (l h).first; value = (l h).value }
    by (Some pending) = tt

  pub levels_fit : (a : Argument) (text : List ℕ) (arguments : Arguments) → AreArguments arguments
      → Yields AreArguments (levels_after a text arguments)
  levels_fit DropAll text arguments a = no_arguments_fit
  levels_fit Digits text arguments a = leveled arguments _ a
      (given _ arguments.level (λ h. SFits-int_wrap w32 _) (λ h. (a h).level))
  levels_fit (Operate operator) text arguments a =
      leveled arguments _ a (operated operator arguments.level (λ h. (a h).level))
  levels_fit Open text arguments a =
      λ h. record { level = record { first = tt; value = tt }; outer = ((a h).level, (a h).outer) }
  levels_fit Close text arguments a = closed arguments.level arguments.outer a
  levels_fit Comma text arguments a = leveled arguments _ a (parted arguments.level (λ h. (a h).level))

  pub value_fits : (v : MachineValue) (kept : Kept) (level : Level) → (H → IsWhole kept) → IsLevel level
      → Yields IsLevel (level_with_value v kept level)
  value_fits Begin kept level w l = given _ level (λ h. omega (arith, ints)) l
  value_fits Size kept level w l = given _ level (λ h. omega (arith, ints, (w h).within)) l
  value_fits Pointer kept level w l = given _ level (λ h. omega (arith, ints, (w h).within, (w h).inside)) l
  value_fits Whole kept level w l =
      pair_given _ _ level (λ h. omega (arith, ints)) (λ h. omega (arith, ints, (w h).within)) l
  value_fits LastLength kept level w l = given _ level (λ h. omega (arith, ints, (w h).last)) l
  value_fits LastText kept level w l = pair_given _ _ level (λ h. SFits-int_wrap w32 _)
      (λ h. omega (arith, ints, (w h).within, (w h).inside)) l

  -- ---- what is taken, and answered
  pub taken_fit : (level : Level) → IsLevel level → Yields IsTaken (arguments_of level)
  taken_fit level l = yields_then FitsIfSome IsTaken _ _ (final_fits level l)
      (λ value f. from level.first value (λ h. (l h).first) f)
    where
      from : (first value : Option ℤ) → FitsIfSome first → FitsIfSome value
          → Yields IsTaken (arguments_from first value)
      from None value f g = λ h. record { first = f h; value = g h }
      from (Some m) None f g = tt
      from (Some m) (Some v) f g = λ h. record { first = f h; value = g h }

  pub taking_fits : (arguments : Arguments) → AreArguments arguments → AreArguments (levels_after_taking arguments)
  taking_fits arguments a h = record { level = record { first = tt; value = tt }; outer = (a h).outer }

  pub answer_fits : (answer : Option ℤ) (arguments : Arguments) → FitsIfSome answer → AreArguments arguments
      → AreArguments (levels_after_answer answer arguments)
  answer_fits None arguments f a = a
  answer_fits (Some v) arguments f a =
      λ h. record { level = record { first = tt; value = f h }; outer = (a h).outer }

  pub standing_fits : (level : Level) → IsLevel level → FitsIfSome (standing_value level)
  standing_fits level l = by level.operator where
    by : (o : Option Operator) → FitsIfSome (value_beside o level.value)
    by None = λ h. (l h).value
    by (Some operator) = λ h. tt
