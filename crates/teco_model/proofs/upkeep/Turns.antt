-- Where execution goes on is a text of bytes, with arguments that fit; and the codes of going there.
use Rattle.teco_model.proofs.Prelude.{ℕ, zero, suc, ℤ, List, [], ◌∷◌, Option, Some, None, Result, Ok, Err, Bool, true}
use Rattle.teco_model.proofs.Prelude.{false, ⊤, Code, Arguments, no_arguments, arguments_of, levels_after_taking, ◌>>=◌}
use Rattle.teco_model.proofs.Prelude.{Element, Frame, IsOfStep, AreBytes, Taken, Loop, Skip}
use Rattle.teco_base.specs.declared.code.Code.TheVariants as code
use Rattle.teco_model.proofs.Coded.{Yields, some, yields_then, yields_any}
use Rattle.teco_model.proofs.upkeep.Levels.{AreArguments, IsTaken, no_arguments_fit, taken_fit, taking_fits}
use Rattle.teco_model.specs.Condition.{holds}
use Rattle.teco_model.specs.Flow as flows
use Rattle.teco_model.specs.Flow.{Turn}
use Rattle.teco_model.specs.Searching as searching
use Rattle.teco_model.specs.declared.kind.Flow.{Flow}
use Rattle.teco_model.specs.declared.kind.Flow.TheVariants as flow
use Rattle.teco_model.specs.declared.kind.Goal.TheVariants as goal

module _ (H : Type 0) where
  -- a command is done after its arguments are taken
  pub after_taking : {X : Type 0} (Q : X → Type 0) (arguments : Arguments) (f : Taken → Result X Code)
      → AreArguments H arguments
      → ((taken : Taken) → IsTaken H taken → AreArguments H (levels_after_taking arguments) → Yields Q (f taken))
      → Yields Q (arguments_of arguments.level >>= f)
  after_taking Q arguments f a k = yields_then (IsTaken H) Q (arguments_of arguments.level) f
      (taken_fit H arguments.level (λ h. (a h).level)) (λ taken t. k taken t (taking_fits H arguments a))

  pub record IsUpheldTurn (turn : Turn) : Type 0 where
    pub arguments : AreArguments H turn.arguments
    pub text : H → AreBytes turn.frame.text

  -- what becomes of a miss
  abbrev pub IsUpheldMiss : searching.Miss → Type 0
  IsUpheldMiss (searching.Leaves turn) = IsUpheldTurn turn
  IsUpheldMiss miss = ⊤

module _ (H : Type 0) (e : Element) (frame : Frame) (b : H → AreBytes frame.text) where
  abbrev Turns : Result Turn Code → Type 0
  Turns r = Yields (IsUpheldTurn H) r

  past : (arguments : Arguments) (place : ℕ) (loops : List Loop) → AreArguments H arguments
      → IsUpheldTurn H (flows.turn_to arguments place loops frame)
  past arguments place loops a = record { arguments = a; text = b }

  jumped : (c : Code) (arguments : Arguments) → IsOfStep c → AreArguments H arguments
      → Turns (flows.jump c e arguments frame)
  jumped c arguments i a = along _ where
    along : (skip : Skip) → Turns (flows.turn_along c skip arguments frame)
    along skip = yields_any (IsUpheldTurn H) _ _ (some skip.to c i) (λ place. past arguments place _ a)

  iterated : (value : Option ℤ) (arguments : Arguments) → AreArguments H arguments
      → Turns (flows.iteration e value arguments frame)
  iterated None arguments a = past arguments _ _ a
  iterated (Some n) arguments a = by (flows.later_turns n) where
    by : (o : Option ℕ) → Turns (flows.counted_iteration e o arguments frame)
    by None = jumped code.Utc arguments tt a
    by (Some turns) = past arguments _ _ a

  ended : (loops : List Loop) → Turns (flows.turn_end e loops frame)
  ended [] = tt
  ended (loop ∷ outer) = by loop.turns where
    by : (o : Option ℕ) → IsUpheldTurn H (elim o as (λ x. Turn) [
      | None ↦ flows.turn_to no_arguments loop.start (loop ∷ outer) frame
      | Some turns ↦ elim turns as (λ x. Turn) [
        | zero ↦ flows.turn_to no_arguments e.next outer frame
        | suc n ↦ flows.turn_to no_arguments loop.start (record loop { turns = Some n } ∷ outer) frame
      ]
    ])
    by None = past no_arguments _ _ (no_arguments_fit H)
    by (Some zero) = past no_arguments _ _ (no_arguments_fit H)
    by (Some (suc n)) = past no_arguments _ _ (no_arguments_fit H)

  left_where : (x : Bool) (arguments : Arguments) → AreArguments H arguments
      → Turns (flows.leaving_where x e arguments frame)
  left_where true arguments a = jumped code.Utc no_arguments tt (no_arguments_fit H)
  left_where false arguments a = past arguments _ _ a

  left : (loops : List Loop) (arguments : Arguments) → AreArguments H arguments
      → Turns (flows.leaving e loops arguments frame)
  left [] arguments a = tt
  left (loop ∷ outer) arguments a = after_taking H (IsUpheldTurn H) arguments _ a
      (λ taken t r. yields_any (IsUpheldTurn H) _ _ (some taken.value code.Arg tt)
      (λ n. left_where (flows.leaves e.colons n) _ r))

  tested : (x : Bool) (arguments : Arguments) → AreArguments H arguments
      → Turns (flows.conditional x e arguments frame)
  tested true arguments a = past arguments _ _ a
  tested false arguments a = jumped code.Utc arguments tt a

  without : (value : Option ℤ) (turn : Turn) → IsUpheldTurn H turn → Turns (flows.without_value value turn)
  without None turn t = t
  without (Some n) turn t = tt

  to_end : (loops : List Loop) (arguments : Arguments) → AreArguments H arguments
      → Turns (flows.to_turn_end e loops arguments frame)
  to_end [] arguments a = tt
  to_end (loop ∷ outer) arguments a = jumped code.Utc arguments tt a

  pub turn_does : (f : Flow) (arguments : Arguments) → AreArguments H arguments
      → Turns (flows.turn_of f e arguments frame)
  turn_does flow.Iterate arguments a =
      after_taking H (IsUpheldTurn H) arguments _ a (λ taken t r. iterated taken.value _ r)
  turn_does flow.EndTurn arguments a = ended frame.loops
  turn_does flow.Leave arguments a = left frame.loops arguments a
  turn_does (flow.Test test) arguments a = after_taking H (IsUpheldTurn H) arguments _ a
      (λ taken t r. yields_any (IsUpheldTurn H) _ _ (some taken.value code.Arg tt)
      (λ n. tested (holds test n) _ r))
  turn_does flow.EndTest arguments a = past arguments _ _ a
  turn_does flow.GoTo arguments a = after_taking H (IsUpheldTurn H) arguments _ a
      (λ taken t r. yields_then (IsUpheldTurn H) (IsUpheldTurn H) (flows.jump code.Tag e no_arguments frame) _
      (jumped code.Tag no_arguments tt (no_arguments_fit H)) (λ turn t. without taken.value turn t))
  turn_does flow.Comment arguments a = past arguments _ _ a
  turn_does (flow.GoAhead goal.EndTurn) arguments a = to_end frame.loops arguments a
  turn_does f arguments a = jumped code.Utc arguments tt a

  -- a search that misses leaves its iteration, if one is open
  miss_within : (loops : List Loop) → IsUpheldMiss H (searching.miss_within loops e frame)
  miss_within [] = tt
  miss_within (loop ∷ outer) = by _ (jumped code.Utc no_arguments tt (no_arguments_fit H)) where
    by : (r : Result Turn Code) → Turns r → IsUpheldMiss H (searching.leaving_by r)
    by (Err c) t = tt
    by (Ok turn) t = t

  pub miss_upheld : (colon : Bool) → IsUpheldMiss H (searching.miss_where colon e frame)
  miss_upheld true = tt
  miss_upheld false = miss_within frame.loops
