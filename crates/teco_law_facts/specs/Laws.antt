-- The laws of facts alone: of the ways of tests, of facts that are covered, of ways that meet, of the entry, and of
-- the start of a body and its turns.
use Rattle.std.specs.Prelude.{◌≡◌, ℕ, ℤ, ◌+◌, ◌-◌, ◌*◌, ◌≤◌, IsTrue, length, List, [], ◌∷◌, Bool, true, false, Option}
use Rattle.std.specs.Prelude.{MatchOption, IfOk, IsErr, ⊤}
use Rattle.teco_model.specs.Arguments.{Arguments, no_arguments}
use Rattle.teco_model.specs.Registers.{Pair}
use Rattle.teco_model.specs.declared.kind.Command.TheVariants as command
use Rattle.teco_model.specs.declared.kind.Kind.{Kind}
use Rattle.teco_model.specs.declared.kind.Kind.TheVariants as kind
use Rattle.teco_model.specs.declared.kind.Stack.TheVariants as stack
use Rattle.teco_model.specs.declared.kind.Storage.TheVariants as storage
use Rattle.teco_model.specs.State.{Kept}
use Rattle.teco_poly.specs.Polynomial.{Polynomial, value}
use Rattle.teco_verifier.specs.facts.Bodies.{Choice, Changes, body_start, begins, returns, has_room}
use Rattle.teco_verifier.specs.facts.Covers.{covers}
use Rattle.teco_law_facts.specs.Describes.{Run, run_behind, run_in_turn, IsWhole, Holds, IsAnswer, Describes, AreEach}
use Rattle.teco_law_facts.specs.Describes.{HasFallen, fore_of, back_of}
use Rattle.teco_law_runs.specs.Ready.{IsEntry}
use Rattle.teco_model.specs.Macros.{IsAsked, ArgumentRange}
use Rattle.teco_verifier.specs.facts.Argument.{arguments_given, facts_given}
use Rattle.teco_verifier.specs.facts.Facts.{Answer, Facts, without_arguments}
use Rattle.teco_verifier.specs.facts.Flows.{entering}
use Rattle.teco_verifier.specs.facts.Joins.{joined}
use Rattle.teco_verifier.specs.facts.Transfer.{Placed, transfer}
use Rattle.teco_verifier.specs.facts.Ways.{Numbers, Takes, way}
use Rattle.teco_verifier.specs.declared.values.Value.{Value}
use Rattle.teco_verifier.specs.facts.Values.{IsIn}

-- ], X and ^U write the text of a register; none of the library's is written.
abbrev pub WritesText : Kind → Type 0
WritesText (kind.Stack (stack.Pop r)) = ⊤
WritesText (kind.Command (command.Storage (storage.Copy r))) = ⊤
WritesText (kind.Command (command.Storage (storage.SetText r))) = ⊤
WritesText k = ⊥

abbrev pub LibraryStays : Type 0
LibraryStays =
    (x : Placed) (facts : Facts) → x.library ≡ true → WritesText x.element.kind → IsErr (transfer x facts)

-- a number is told: it is of a value, or it is an answer
abbrev pub IsTold : Run → Option Answer → Value → ℕ → ℕ → ℕ → List Pair → ℤ → Type 0
IsTold run answer s fore back unread pairs v =
    MatchOption answer (IsIn s fore back v) (λ a. IsAnswer run a fore back unread pairs v)

-- The way that a number takes is reached, and what is known on it holds.
abbrev pub WaysAreSound : Type 0
WaysAreSound =
    (run : Run) (facts : Facts) (unread : ℕ) (kept : Kept)
    (numbers : Numbers) (answer : Option Answer) (s : Value) (v : ℤ)
    → IsWhole kept → Holds run facts unread kept
    → IsTold run answer s (fore_of kept) (back_of kept) unread kept.registers.pairs v → Takes numbers v
    → MatchOption (way numbers answer s facts) ⊥ (λ next. Holds run next unread kept)

-- What covers facts that describe a state describes it.
abbrev pub CoversAreSound : Type 0
CoversAreSound =
    (run : Run) (facts edge : Facts) (unread : ℕ) (kept : Kept) (arguments : Arguments)
    → IsWhole kept → IsTrue (covers facts edge) → Describes run edge unread kept arguments
    → Describes run facts unread kept arguments

-- Facts of the same iterations and registers, which may meet.
pub record MayMeet (facts others : Facts) : Type 0 where
  pub falls : length facts.position.falls ≡ length others.position.falls
  pub numbers : length facts.numbers ≡ length others.numbers
  pub texts : length facts.texts ≡ length others.texts
  pub saved : length facts.position.saved ≡ length others.position.saved

-- Where ways meet, what is known of both describes what either describes.
pub record MeetsBoth (facts others join : Facts) : Type 0 where
  pub one :
      (run : Run) (unread : ℕ) (kept : Kept) (arguments : Arguments)
      → Describes run facts unread kept arguments → Describes run join unread kept arguments
  pub other :
      (run : Run) (unread : ℕ) (kept : Kept) (arguments : Arguments)
      → Describes run others unread kept arguments → Describes run join unread kept arguments

abbrev pub JoinsAreSound : Type 0
JoinsAreSound =
    (facts others : Facts) → MayMeet facts others → IfOk (joined facts others) (MeetsBoth facts others)

-- At the entry no iteration is open, N holds all, and nothing is pending but the argument, where one is given.
abbrev pub EntryIsSound : Type 0
EntryIsSound =
    (n unread : ℕ) (kept : Kept) (range : Option ArgumentRange) (given : Option ℕ)
    → IsWhole kept → IsEntry n unread kept → IsAsked range given
    → Describes (record { n = n; turns = []; below = kept.registers.stack }) (facts_given range) unread kept
    (arguments_given given)

-- what enters a body from what is known before its <
abbrev pub entered : Bool → Facts → Facts
entered counted facts = entering counted (without_arguments facts)

-- The facts at the start of a body, where the choice begins, describe what enters it.
abbrev pub BodyStartsAreSound : Type 0
BodyStartsAreSound =
    (run : Run) (facts : Facts) (unread : ℕ) (kept : Kept) (arguments : Arguments)
    (choice : Choice) (changes : Changes) (counted : Bool)
    → IsWhole kept → IsTrue (begins choice (entered counted facts))
    → Describes (run_in_turn unread kept run) (entered counted facts) unread kept arguments
    → Describes (run_in_turn unread kept run) (body_start choice changes (entered counted facts))
    unread kept arguments

-- What is carried from turn to turn: a kept iteration began its turn with no more ahead than was at its <, and with
-- falls of those outside as they were there.
pub record IsCarried (run : Run) (facts : Facts) (begun : ℕ) (outer : List ℕ) : Type 0 where
  pub ahead : begun ≤ value facts.position.ahead run.n
  pub falls : AreEach (HasFallen begun) facts.position.falls outer

-- Where a choice returns, the facts at the start of the body describe the state behind its >, if no more is held than
-- the choice has; and what is carried to this turn is carried to the next.
pub record BeginsAgain
    (run : Run) (facts start : Facts) (unread : ℕ) (kept : Kept) (kept_iteration : Bool) (outer : List ℕ) : Type 0 where
  pub described : Describes (run_in_turn unread kept (run_behind 1 run)) start unread kept no_arguments
  pub carried : kept_iteration ≡ true → IsCarried run facts (fore_of kept + unread) outer

abbrev pub ReturnsAreSound : Type 0
ReturnsAreSound =
    (run : Run) (facts end : Facts) (unread : ℕ) (kept : Kept) (arguments : Arguments)
    (choice : Choice) (changes : Changes) (counted : Bool) (turns : Polynomial) (begun : ℕ) (outer : List ℕ)
    → IsWhole kept → IsTrue (returns choice changes counted turns (entered counted facts) end)
    → Describes run end unread kept arguments → run.turns ≡ begun ∷ outer
    → length facts.position.falls ≡ length outer
    → length kept.text + unread ≤ value choice.held run.n
    → (choice.kept ≡ true → IsCarried run facts begun outer)
    → BeginsAgain run facts (body_start choice changes (entered counted facts)) unread kept choice.kept outer

-- Without a count less is ahead behind each turn than at its begin.
abbrev pub TurnsFall : Type 0
TurnsFall =
    (run : Run) (end : Facts) (unread : ℕ) (kept : Kept) (arguments : Arguments)
    (choice : Choice) (changes : Changes) (turns : Polynomial) (entering : Facts) (begun : ℕ) (outer : List ℕ)
    → IsTrue (returns choice changes false turns entering end)
    → Describes run end unread kept arguments → run.turns ≡ begun ∷ outer
    → fore_of kept + unread + 1 ≤ begun

-- Where there is room, what is held grows by no more than a growth in each turn, and at the start of the last turn no
-- more is held than the choice has.
pub record HasRoom (n : ℕ) (choice : Choice) (turns : Polynomial) (entering end : Facts) : Type 0 where
  pub growth : ℕ
  pub grows : value end.held n ≡ value choice.held n + growth
  pub room : value entering.held n + (value turns n - 1) * growth ≤ value choice.held n

abbrev pub RoomIsSound : Type 0
RoomIsSound =
    (n : ℕ) (choice : Choice) (turns : Polynomial) (entering end : Facts)
    → IsTrue (has_room choice turns entering end) → HasRoom n choice turns entering end
