-- The laws of tests, iterations and tags: the edge that the machine goes along is reached, and its facts describe the
-- state there.
use Rattle.std.specs.Prelude.{◌≡◌, ℕ, ℤ, pos, ◌+◌, ◌≤◌, ◌≤ℤ◌, ⊤, List, ◌∷◌, Bool, true, false, Option, Some, None}
use Rattle.std.specs.Prelude.{MatchOption, Result, IfOk, if◌then◌else◌}
use Rattle.teco_base.specs.declared.code.Code.{Code}
use Rattle.teco_model.specs.Arguments.{Arguments, arguments_of, levels_after_taking, no_arguments}
use Rattle.teco_model.specs.Checked.{◌>>=◌}
use Rattle.teco_model.specs.Condition.{holds}
use Rattle.teco_model.specs.Effect.{needed_value}
use Rattle.teco_model.specs.Flow.{later_turns, leaves}
use Rattle.teco_model.specs.State.{Kept}
use Rattle.teco_model.specs.declared.arguments.Taken.{Taken}
use Rattle.teco_model.specs.declared.kind.Call.{Call}
use Rattle.teco_model.specs.declared.kind.Flow.TheVariants as flow
use Rattle.teco_model.specs.declared.kind.Goal.{Goal}
use Rattle.teco_model.specs.declared.kind.Kind.TheVariants as kind
use Rattle.teco_model.specs.declared.kind.Test.{Test}
use Rattle.teco_poly.specs.Polynomial.{value}
use Rattle.teco_law_facts.specs.Describes.{Run, IsWhole, Describes, run_behind, run_in_turn, fore_of}
use Rattle.teco_verifier.specs.facts.Facts.{Facts, Iteration}
use Rattle.teco_verifier.specs.facts.Flows.{Edges, turns}
use Rattle.teco_law_facts.specs.SoundElements.{Leads}
use Rattle.teco_verifier.specs.facts.Transfer.{Placed, transfer, transfer_return}
use Rattle.teco_verifier.specs.declared.refusal.RefusalReason.{RefusalReason}

-- what is known where nothing has to fit: no code comes
abbrev pub Tells : {X Y : Type 0} → (X → Y → Type 0) → Result X RefusalReason → Result Y Code → Type 0
Tells P known done = Leads (λ edges. ⊤) P known done

-- an edge is reached, and its facts describe the state
abbrev pub IsReached : Run → Option Facts → ℕ → Kept → Arguments → Type 0
IsReached run edge unread kept arguments =
    MatchOption edge ⊥ (λ next. Describes run next unread kept arguments)

-- the number that ; and " need
abbrev pub number_needed : Arguments → Result ℤ Code
number_needed arguments = do
  taken ← arguments_of arguments.level
  needed_value taken.value

-- A conditional goes on where its test holds, and else away.
abbrev pub TestsAreSound : Type 0
TestsAreSound =
    (run : Run) (facts : Facts) (unread : ℕ) (kept : Kept) (arguments : Arguments) (x : Placed) (t : Test)
    → IsWhole kept → Describes run facts unread kept arguments → x.element.kind ≡ kind.Flow (flow.Test t)
    → Tells
    (λ edges v. IsReached run (if holds t v then edges.on else edges.away) unread kept
    (levels_after_taking arguments))
    (transfer x facts) (number_needed arguments)

-- ; and :; go on, or leave their iteration with no arguments.
abbrev pub LeavingOr : Run → ℕ → Kept → Arguments → Bool → Edges → Type 0
LeavingOr run unread kept arguments true edges =
    IsReached (run_behind 1 run) edges.away unread kept no_arguments
LeavingOr run unread kept arguments false edges =
    IsReached run edges.on unread kept (levels_after_taking arguments)

abbrev pub LeavesAreSound : Type 0
LeavesAreSound =
    (run : Run) (facts : Facts) (unread : ℕ) (kept : Kept) (arguments : Arguments) (x : Placed)
    → IsWhole kept → Describes run facts unread kept arguments → x.element.kind ≡ kind.Flow flow.Leave
    → Tells
    (λ edges v. LeavingOr run unread kept arguments (leaves x.element.colons v) edges)
    (transfer x facts) (number_needed arguments)

-- < enters its body, where a turn begins, or skips it where it has a count that begins none.
abbrev pub EntersOr : Run → ℕ → Kept → Arguments → Option ℤ → Edges → Type 0
EntersOr run unread kept arguments None edges =
    IsReached (run_in_turn unread kept run) edges.on unread kept (levels_after_taking arguments)
EntersOr run unread kept arguments (Some n) edges =
    MatchOption (later_turns n)
    (IsReached run edges.away unread kept (levels_after_taking arguments))
    (λ more. IsReached (run_in_turn unread kept run) edges.on unread kept (levels_after_taking arguments))

abbrev pub IterationsAreSound : Type 0
IterationsAreSound =
    (run : Run) (facts : Facts) (unread : ℕ) (kept : Kept) (arguments : Arguments) (x : Placed)
    → IsWhole kept → Describes run facts unread kept arguments → x.element.kind ≡ kind.Flow flow.Iterate
    → Tells
    (λ edges (taken : Taken). EntersOr run unread kept arguments taken.value edges)
    (transfer x facts) (arguments_of arguments.level)

-- A count is at most the turns; without one these are more than what is ahead.
abbrev pub AreTurns : ℕ → ℕ → Option ℤ → Type 0
AreTurns most ahead None = ahead + 1 ≤ most
AreTurns most ahead (Some n) = n ≤ℤ pos most

abbrev pub TurnsAreSound : Type 0
TurnsAreSound =
    (run : Run) (facts : Facts) (unread : ℕ) (kept : Kept) (arguments : Arguments)
    → IsWhole kept → Describes run facts unread kept arguments
    → Tells
    (λ most (taken : Taken). AreTurns (value most run.n) (fore_of kept + unread) taken.value)
    (turns facts) (arguments_of arguments.level)

-- > goes back, where another turn begins, or on behind its iteration if that is counted; no arguments are left.
pub record EndsTurn (run : Run) (unread : ℕ) (kept : Kept) (counted : Bool) (edges : Edges) : Type 0 where
  pub back : IsReached (run_in_turn unread kept (run_behind 1 run)) edges.away unread kept no_arguments
  pub on : counted ≡ true → IsReached (run_behind 1 run) edges.on unread kept no_arguments

abbrev pub TurnEndsAreSound : Type 0
TurnEndsAreSound =
    (run : Run) (facts : Facts) (unread : ℕ) (kept : Kept) (arguments : Arguments) (x : Placed)
    (i : Iteration)
    (outer : List Iteration)
    → IsWhole kept → Describes run facts unread kept arguments → x.element.kind ≡ kind.Flow flow.EndTurn
    → facts.iterations ≡ i ∷ outer
    → IfOk (transfer x facts) (λ edges. EndsTurn run unread kept i.counted edges)

-- O goes away with no arguments, and has none.
abbrev pub TagsAreSound : Type 0
TagsAreSound =
    (run : Run) (facts : Facts) (unread : ℕ) (kept : Kept) (arguments : Arguments) (x : Placed)
    → IsWhole kept → Describes run facts unread kept arguments → x.element.kind ≡ kind.Flow flow.GoTo
    → Tells
    (λ edges (taken : Taken).
    (taken.value ≡ None) × IsReached (run_behind x.leaves run) edges.away unread kept no_arguments)
    (transfer x facts) (arguments_of arguments.level)

-- The other elements of flow, a call and a return change nothing: |, F>, F' and F| go away, and the others go on.
pub record PassOn
    (run : Run) (facts : Facts) (unread : ℕ) (kept : Kept) (arguments : Arguments) (x : Placed) : Type 0 where
  pub otherwise :
      x.element.kind ≡ kind.Flow flow.Otherwise
      → IfOk (transfer x facts) (λ edges. IsReached run edges.away unread kept arguments)
  pub ahead :
      (g : Goal) → x.element.kind ≡ kind.Flow (flow.GoAhead g)
      → IfOk (transfer x facts) (λ edges. IsReached run edges.away unread kept arguments)
  pub end :
      x.element.kind ≡ kind.Flow flow.EndTest
      → IfOk (transfer x facts) (λ edges. IsReached run edges.on unread kept arguments)
  pub comment :
      x.element.kind ≡ kind.Flow flow.Comment
      → IfOk (transfer x facts) (λ edges. IsReached run edges.on unread kept arguments)
  pub call :
      (c : Call) → x.element.kind ≡ kind.Call c
      → IfOk (transfer x facts) (λ edges. IsReached run edges.on unread kept arguments)
  pub returns : IsReached run (transfer_return facts).on unread kept arguments

abbrev pub OthersAreSound : Type 0
OthersAreSound =
    (run : Run) (facts : Facts) (unread : ℕ) (kept : Kept) (arguments : Arguments) (x : Placed)
    → Describes run facts unread kept arguments → PassOn run facts unread kept arguments x
