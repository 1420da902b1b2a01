-- The laws of what elements do to facts: where the transfer gives facts, the machine comes to a state that they
-- describe.
use Rattle.std.specs.Prelude.{◌≡◌, ℕ, ◌+◌, ◌<◌, ◌≤◌, ⊤, length, MatchOption, Result, Ok, Err}
use Rattle.teco_base.specs.declared.TheConstants.{LIMIT, REGISTERS}
use Rattle.teco_base.specs.declared.code.Code.{Code}
use Rattle.teco_model.specs.declared.kind.Argument.{Argument}
use Rattle.teco_model.specs.declared.kind.Command.{Command}
use Rattle.teco_model.specs.declared.kind.Command.TheVariants as command
use Rattle.teco_model.specs.declared.kind.Kind.TheVariants as kind
use Rattle.teco_model.specs.declared.kind.Query.{Query}
use Rattle.teco_model.specs.declared.kind.Query.TheVariants as query
use Rattle.teco_model.specs.declared.kind.Stack.{Stack}
use Rattle.teco_model.specs.declared.kind.Stack.TheVariants as stack
use Rattle.teco_model.specs.declared.kind.Storage.{Storage}
use Rattle.teco_model.specs.declared.kind.Storage.TheVariants as storage
use Rattle.teco_model.specs.declared.kind.MachineValue.{MachineValue as Given}
use Rattle.teco_model.specs.Arguments.{Arguments}
use Rattle.teco_model.specs.State.{Kept}
use Rattle.teco_model.specs.Going.{After}
use Rattle.teco_model.specs.Step.{after_argument, after_value, after_query, after_stack, after_command}
use Rattle.teco_poly.specs.Polynomial.{Polynomial, value}
use Rattle.teco_verifier.specs.declared.refusal.RefusalReason.{RefusalReason}
use Rattle.teco_law_facts.specs.Describes.{Run, IsWhole, Describes}
use Rattle.teco_verifier.specs.facts.Facts.{Facts}
use Rattle.teco_verifier.specs.facts.Flows.{Edges}
use Rattle.teco_verifier.specs.facts.Transfer.{Placed, transfer}
use Rattle.std.specs.List.{AllByRecursion}

-- the buffer and each text may be as long as is known
pub record Fits (n : ℕ) (facts : Facts) : Type 0 where
  pub buffer : value facts.held n ≤ LIMIT
  pub texts : AllByRecursion (λ most. value most n ≤ LIMIT) facts.texts

-- The facts describe the state that the machine comes to, and the buffer grew by no more than they say.
pub record Arrives
    (run : Run) (held : Polynomial) (unread : ℕ) (kept : Kept) (next : Facts) (after : After) : Type 0 where
  pub described : Describes run next unread after.kept after.arguments
  pub grown : length after.kept.text + value held run.n ≤ length kept.text + value next.held run.n

-- What is known leads to what the machine does: where it is given and fits, no code comes, and it is true.
abbrev pub Succeeds : {Y : Type 0} → (Y → Type 0) → Result Y Code → Type 0
Succeeds P (Ok y) = P y
Succeeds P (Err c) = ⊥

abbrev pub Leads : {X Y : Type 0} → (X → Type 0) → (X → Y → Type 0) → Result X RefusalReason
    → Result Y Code → Type 0
Leads Fit P (Ok x) y = Fit x → Succeeds (P x) y
Leads Fit P (Err why) y = ⊤

-- along the edge that goes on
abbrev pub FitsOn : ℕ → Edges → Type 0
FitsOn n edges = MatchOption edges.on ⊤ (Fits n)

abbrev pub ArrivesOn : Run → Polynomial → ℕ → Kept → Edges → After → Type 0
ArrivesOn run held unread kept edges after =
    MatchOption edges.on ⊥ (λ next. Arrives run held unread kept next after)

abbrev pub GoesOn : Run → Facts → ℕ → Kept → Placed → Result After Code → Type 0
GoesOn run facts unread kept x after =
    Leads (FitsOn run.n) (ArrivesOn run facts.held unread kept) (transfer x facts) after

-- digits, operators, parentheses, comma and ESC
abbrev pub ArgumentsAreSound : Type 0
ArgumentsAreSound =
    (run : Run) (facts : Facts) (unread : ℕ) (kept : Kept) (arguments : Arguments) (x : Placed) (a : Argument)
    → IsWhole kept → Describes run facts unread kept arguments → x.element.kind ≡ kind.Argument a
    → GoesOn run facts unread kept x (after_argument a x.element kept arguments)

-- B Z . H and ^S
abbrev pub ValuesAreSound : Type 0
ValuesAreSound =
    (run : Run) (facts : Facts) (unread : ℕ) (kept : Kept) (arguments : Arguments) (x : Placed) (v : Given)
    → IsWhole kept → Describes run facts unread kept arguments → x.element.kind ≡ kind.Value v
    → GoesOn run facts unread kept x (after_value v kept arguments)

-- a register that an element names is one of the 36
abbrev pub IsNamedByStorage : Storage → Type 0
IsNamedByStorage (storage.SetNumber r) = r < REGISTERS
IsNamedByStorage (storage.Add r) = r < REGISTERS
IsNamedByStorage (storage.Copy r) = r < REGISTERS
IsNamedByStorage (storage.SetText r) = r < REGISTERS
IsNamedByStorage (storage.Get r) = r < REGISTERS

abbrev pub IsNamedByCommand : Command → Type 0
IsNamedByCommand (command.Storage s) = IsNamedByStorage s
IsNamedByCommand c = ⊤

abbrev pub IsNamedByQuery : Query → Type 0
IsNamedByQuery (query.Number r) = r < REGISTERS
IsNamedByQuery q = ⊤

abbrev pub IsNamedByStack : Stack → Type 0
IsNamedByStack (stack.Push r) = r < REGISTERS
IsNamedByStack (stack.Pop r) = r < REGISTERS

-- C R J L, D K, I and TAB, what types, and U % X ^U G
abbrev pub CommandsAreSound : Type 0
CommandsAreSound =
    (run : Run) (facts : Facts) (unread : ℕ) (kept : Kept) (arguments : Arguments) (x : Placed) (c : Command)
    → IsWhole kept → Describes run facts unread kept arguments → x.element.kind ≡ kind.Command c
    → IsNamedByCommand c
    → GoesOn run facts unread kept x (after_command c x.element kept arguments)

-- Q, ^X and \
abbrev pub QueriesAreSound : Type 0
QueriesAreSound =
    (run : Run) (facts : Facts) (unread : ℕ) (kept : Kept) (arguments : Arguments) (x : Placed) (q : Query)
    → IsWhole kept → Describes run facts unread kept arguments → x.element.kind ≡ kind.Query q
    → IsNamedByQuery q
    → GoesOn run facts unread kept x (after_query q x.element kept arguments)

-- [ and ]
abbrev pub StacksAreSound : Type 0
StacksAreSound =
    (run : Run) (facts : Facts) (unread : ℕ) (kept : Kept) (arguments : Arguments) (x : Placed) (s : Stack)
    → IsWhole kept → Describes run facts unread kept arguments → x.element.kind ≡ kind.Stack s
    → IsNamedByStack s
    → GoesOn run facts unread kept x (after_stack s kept arguments)
