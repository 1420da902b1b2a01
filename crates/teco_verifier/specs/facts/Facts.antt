-- What is known before an element.
use Rattle.std.specs.Prelude.{ℕ, ℤ, List, [], replicate, slice_index_or, Bool, false, Option, None, Result}
use Rattle.std.specs.Option.{ok_or}
use Rattle.teco_base.specs.declared.TheConstants.{REGISTERS}
use Rattle.teco_poly.specs.Polynomial.{Polynomial, variable, add, join}
use Rattle.teco_verifier.specs.declared.values.Interval.{Interval}
use Rattle.teco_verifier.specs.declared.values.Distances.{Distances}
use Rattle.teco_verifier.specs.declared.refusal.RefusalReason.{RefusalReason}
use Rattle.teco_verifier.specs.declared.refusal.RefusalReason.TheVariants as refusal
use Rattle.teco_verifier.specs.facts.Arguments.{KnownArguments, no_arguments}
use Rattle.teco_verifier.specs.facts.Values.{any_number}

-- What is held is the buffer and the unread input; what is ahead is the part of it behind the pointer. How much there
-- may be is told by polynomials in N.

-- Where the pointer is: its least distances, for each open iteration the least fall of what is ahead since its turn
-- began, if it is known, the innermost first, and how much is ahead; and which registers are saved, in their order:
-- their numbers are places of the buffer.
pub record Position : Type 0 where
  pub distances : Distances
  pub falls : List (Option ℤ)
  pub ahead : Polynomial
  pub saved : List Bool

-- a search's answer, -1 or 0, with what is known of the position where it was found, and where it failed
pub record Answer : Type 0 where
  pub found : Position
  pub failed : Position

-- an open iteration: whether it has a count, and how many pairs were pushed at its <
pub record Iteration : Type 0 where
  pub counted : Bool
  pub pushes : ℕ

-- a pair that was pushed since the entry
pub record Pushed : Type 0 where
  pub number : Interval
  pub text : Polynomial

-- Where a search's answer is pending, the position is known of both outcomes.
pub record Facts : Type 0 where
  pub arguments : KnownArguments
  pub answer : Option Answer
  pub position : Position
  pub iterations : List Iteration
  pub held : Polynomial
  pub numbers : List Interval
  pub texts : List Polynomial
  pub pushes : List Pushed

-- the sum and the join of polynomials, where they do not overflow
abbrev pub sum_of : Polynomial → Polynomial → Result Polynomial RefusalReason
sum_of p q = ok_or (add p q) refusal.Overflow

abbrev pub join_of : Polynomial → Polynomial → Result Polynomial RefusalReason
join_of p q = ok_or (join p q) refusal.Overflow

-- nothing is known of the pointer
abbrev pub nowhere : Distances
nowhere = record { back = 0; fore = 0 }

-- no register is saved
abbrev pub none_saved : List Bool
none_saved = replicate REGISTERS false

-- what is known before the first element: nothing is pending, and N holds all
abbrev pub entry_facts : Facts
entry_facts = record {
  arguments = no_arguments;
  answer = None;
  position = record { distances = nowhere; falls = []; ahead = variable; saved = none_saved };
  iterations = [];
  held = variable;
  numbers = replicate REGISTERS any_number;
  texts = replicate REGISTERS variable;
  pushes = [];
}

-- what is known of a register
abbrev pub number_of : ℕ → Facts → Interval
number_of r facts = slice_index_or facts.numbers r any_number

abbrev pub is_saved : ℕ → Facts → Bool
is_saved r facts = slice_index_or facts.position.saved r false

abbrev pub text_of : ℕ → Facts → Polynomial
text_of r facts = slice_index_or facts.texts r []

-- other arguments, and none
abbrev pub with_arguments : KnownArguments → Facts → Facts
with_arguments arguments facts = record facts { arguments = arguments; answer = None }

abbrev pub without_arguments : Facts → Facts
without_arguments facts = with_arguments no_arguments facts

-- another position
abbrev pub at_position : Position → Facts → Facts
at_position position facts = record facts { position = position }
