-- A call with an argument before it.
use Rattle.std.specs.Prelude.{◌≡◌, ℕ, pos, ◌<◌, ◌^◌, List, ◌++◌, Option, Some, None, Ok}
use Rattle.teco_base.specs.NumberText.{decimal}
use Rattle.teco_base.specs.declared.TheConstants.{REGISTERS}
use Rattle.teco_model.specs.declared.kind.Argument.TheVariants as argument
use Rattle.teco_model.specs.declared.kind.Kind.TheVariants as kind
use Rattle.teco_model.specs.Element.{Element, element_at}
use Rattle.teco_model.specs.State.{World, State, Next, start}
use Rattle.teco_model.specs.Step.{step}
use Rattle.teco_law_runs.specs.Alike.{AreAlike}
use Rattle.teco_model.specs.Macros.{call_of}
use Rattle.teco_verifier.specs.facts.Argument.{arguments_given}

-- the argument stands before the call in decimal
abbrev pub call_given : ℕ → Option ℕ → List ℕ
call_given entry None = call_of entry
call_given entry (Some n) = decimal (pos n) ++ call_of entry

-- the call, where the argument that is given is pending already
abbrev pub start_given : ℕ → Option ℕ → World → State
start_given entry given world =
    record (start (call_of entry) world) { arguments = arguments_given given }

-- the call where a number is pending already
abbrev pub start_pending : ℕ → ℕ → World → State
start_pending entry n world = start_given entry (Some n) world

-- A number before a call is like one that is pending: the first step takes its digits.
pub record BeginsPending (entry n : ℕ) (world : World) : Type 0 where
  pub digits : Element
  pub reads : element_at (call_given entry (Some n)) 0 ≡ Ok (Some digits)
  pub are_digits : digits.kind ≡ kind.Argument argument.Digits
  pub behind : State
  pub goes : step (start (call_given entry (Some n)) world) ≡ Next behind
  pub alike : AreAlike behind (start_pending entry n world)

abbrev pub NumbersArePending : Type 0
NumbersArePending = (entry n : ℕ) (world : World) → entry < REGISTERS → n < 2 ^ 31
    → BeginsPending entry n world
