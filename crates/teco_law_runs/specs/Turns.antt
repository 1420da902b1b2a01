-- What a flow element did, by the way that it went: what it asked of its argument, and what became of the open
-- iterations and of the turns left.
use Rattle.std.specs.Prelude.{◌≡◌, ℕ, ℤ, zero, suc, List, ◌∷◌, drop, true, false, Option, Some, None, Ok}
use Rattle.teco_model.specs.declared.arguments.Taken.{Taken}
use Rattle.teco_model.specs.declared.flow.Loop.{Loop}
use Rattle.teco_model.specs.declared.kind.Flow.{Flow}
use Rattle.teco_model.specs.declared.kind.Flow.TheVariants as flow
use Rattle.teco_model.specs.declared.kind.Test.{Test}
use Rattle.teco_model.specs.Ahead.{Whole}
use Rattle.teco_model.specs.Arguments.{Arguments, no_arguments, arguments_of, levels_after_taking}
use Rattle.teco_model.specs.Condition.{holds}
use Rattle.teco_model.specs.Element.{Element}
use Rattle.teco_model.specs.Flow.{Turn, turn_to, turn_past, later_turns, leaves}
use Rattle.teco_model.specs.Skip.{skip_of}
use Rattle.teco_model.specs.State.{Frame}

-- the value that an element took, if there was one
pub record Took (a : Arguments) (value : Option ℤ) : Type 0 where
  pub taken : Taken
  pub took : arguments_of a.level ≡ Ok taken
  pub value_is : taken.value ≡ value

-- a jump, which leaves so many iterations
pub record Jumps (leaves : ℕ) (e : Element) (a : Arguments) (frame : Frame) (turn : Turn) : Type 0 where
  pub place : ℕ
  pub leads : (skip_of frame.text (Whole e)).to ≡ Some place
  pub leaving : (skip_of frame.text (Whole e)).leaves ≡ leaves
  pub gone : turn ≡ turn_to a place (drop leaves frame.loops) frame

-- Of n turns n - 1 come after the first; without a count they are not counted.
abbrev pub Counts : Option ℤ → Option ℕ → Type 0
Counts None turns = turns ≡ None
Counts (Some n) turns = (more : ℕ) × (turns ≡ Some more) × (later_turns n ≡ Some more)

-- < goes into its body,
pub record Enters (e : Element) (a : Arguments) (frame : Frame) (turn : Turn) : Type 0 where
  pub value : Option ℤ
  pub turns : Option ℕ
  pub took : Took a value
  pub counts : Counts value turns
  pub gone :
      turn ≡ turn_to (levels_after_taking a) e.next
      (record { start = e.next; turns = turns } ∷ frame.loops) frame

-- or past it, where there is no first turn.
pub record PassesBy (e : Element) (a : Arguments) (frame : Frame) (turn : Turn) : Type 0 where
  pub n : ℤ
  pub took : Took a (Some n)
  pub none : later_turns n ≡ None
  pub jumps : Jumps 0 e (levels_after_taking a) frame turn

-- one turn fewer comes after this one, where they are counted
abbrev pub CountsDown : Option ℕ → Option ℕ → Type 0
CountsDown None more = more ≡ None
CountsDown (Some turns) more = (n : ℕ) × (more ≡ Some n) × (turns ≡ suc n)

-- > goes back to the start of its iteration,
pub record GoesBack (frame : Frame) (turn : Turn) : Type 0 where
  pub loop : Loop
  pub outer : List Loop
  pub turns : Option ℕ
  pub inside : frame.loops ≡ loop ∷ outer
  pub counts : CountsDown loop.turns turns
  pub gone :
      turn ≡ turn_to no_arguments loop.start (record { start = loop.start; turns = turns } ∷ outer) frame

-- or on behind itself, where no turn is left.
pub record EndsLast (e : Element) (frame : Frame) (turn : Turn) : Type 0 where
  pub loop : Loop
  pub outer : List Loop
  pub inside : frame.loops ≡ loop ∷ outer
  pub last : loop.turns ≡ Some 0
  pub gone : turn ≡ turn_to no_arguments e.next outer frame

-- ; goes on, or leaves its iteration.
pub record Stays (e : Element) (a : Arguments) (frame : Frame) (turn : Turn) : Type 0 where
  pub n : ℤ
  pub took : Took a (Some n)
  pub stays : leaves e.colons n ≡ false
  pub gone : turn ≡ turn_past e (levels_after_taking a) frame

pub record Leaves (e : Element) (a : Arguments) (frame : Frame) (turn : Turn) : Type 0 where
  pub n : ℤ
  pub took : Took a (Some n)
  pub leaves : leaves e.colons n ≡ true
  pub loop : Loop
  pub outer : List Loop
  pub inside : frame.loops ≡ loop ∷ outer
  pub jumps : Jumps 1 e no_arguments frame turn

-- A conditional goes on where its test holds, and else to its other branch.
pub record Holds (test : Test) (e : Element) (a : Arguments) (frame : Frame) (turn : Turn) : Type 0 where
  pub n : ℤ
  pub took : Took a (Some n)
  pub true_here : holds test n ≡ true
  pub gone : turn ≡ turn_past e (levels_after_taking a) frame

pub record Fails (test : Test) (e : Element) (a : Arguments) (frame : Frame) (turn : Turn) : Type 0 where
  pub n : ℤ
  pub took : Took a (Some n)
  pub false_here : holds test n ≡ false
  pub jumps : Jumps 0 e (levels_after_taking a) frame turn

-- O goes to its tag, and takes no value.
pub record GoesTo (e : Element) (a : Arguments) (frame : Frame) (turn : Turn) : Type 0 where
  pub took : Took a None
  pub left : ℕ
  pub jumps : Jumps left e no_arguments frame turn

-- by the element, and the number of its way
abbrev pub Went : Flow → ℕ → Element → Arguments → Frame → Turn → Type 0
Went flow.Iterate zero e a frame turn = Enters e a frame turn
Went flow.Iterate (suc zero) e a frame turn = PassesBy e a frame turn
Went flow.EndTurn zero e a frame turn = GoesBack frame turn
Went flow.EndTurn (suc zero) e a frame turn = EndsLast e frame turn
Went flow.Leave zero e a frame turn = Stays e a frame turn
Went flow.Leave (suc zero) e a frame turn = Leaves e a frame turn
Went (flow.Test test) zero e a frame turn = Holds test e a frame turn
Went (flow.Test test) (suc zero) e a frame turn = Fails test e a frame turn
Went flow.Otherwise zero e a frame turn = Jumps 0 e a frame turn
Went flow.GoTo zero e a frame turn = GoesTo e a frame turn
Went flow.EndTest zero e a frame turn = turn ≡ turn_past e a frame
Went flow.Comment zero e a frame turn = turn ≡ turn_past e a frame
Went (flow.GoAhead g) zero e a frame turn = Jumps 0 e a frame turn
Went f way e a frame turn = ⊥
