-- What an element does to what is known before it.
use Rattle.std.specs.Prelude.{ℕ, pos, neg_ℤ, List, Bool, true, false, Option, Some, None, Result, Ok, Err, ◌||◌}
use Rattle.std.specs.Prelude.{if◌then◌else◌}
use Rattle.teco_base.specs.declared.TheConstants.{LIMIT}
use Rattle.teco_model.specs.declared.kind.Kind.{Kind}
use Rattle.teco_model.specs.declared.kind.Kind.TheVariants as kind
use Rattle.teco_model.specs.declared.kind.Argument.{Argument}
use Rattle.teco_model.specs.declared.kind.Argument.TheVariants.{DropAll, Digits, Operate, Open, Close, Comma}
use Rattle.teco_model.specs.declared.kind.MachineValue.{MachineValue as Given}
use Rattle.teco_model.specs.declared.kind.MachineValue.TheVariants.{Begin, Size, Pointer, Whole, LastLength, LastText}
use Rattle.teco_model.specs.declared.kind.Command.{Command}
use Rattle.teco_model.specs.declared.kind.Command.TheVariants as command
use Rattle.teco_model.specs.declared.kind.Flow.TheVariants as flow
use Rattle.teco_model.specs.declared.kind.Page.{Page}
use Rattle.teco_model.specs.declared.kind.Search.{Search}
use Rattle.teco_model.specs.Arguments.{run_value}
use Rattle.teco_model.specs.Element.{Element}
use Rattle.teco_verifier.specs.declared.values.Interval.{Interval}
use Rattle.teco_verifier.specs.declared.values.Distances.{Distances}
use Rattle.teco_verifier.specs.declared.refusal.RefusalReason.{RefusalReason}
use Rattle.teco_verifier.specs.declared.refusal.RefusalReason.TheVariants as refusal
use Rattle.teco_verifier.specs.facts.Arguments.{KnownLevel, KnownArguments, KnownTaken, no_arguments, with_level}
use Rattle.teco_verifier.specs.facts.Arguments.{level_with, level_with_pair, level_with_operator, level_after_comma}
use Rattle.teco_verifier.specs.facts.Arguments.{levels_after_open, levels_closed_onto, arguments_of}
use Rattle.teco_verifier.specs.facts.Arguments.{levels_after_taking}
use Rattle.teco_verifier.specs.facts.Attempt.{◌>>=◌}
use Rattle.teco_verifier.specs.facts.Deletions.{deletion}
use Rattle.teco_verifier.specs.facts.Facts.{Answer, Facts, with_arguments}
use Rattle.teco_verifier.specs.facts.Flows.{Edges, goes_on, leaving, flow_edges}
use Rattle.teco_verifier.specs.facts.Insertions.{insertion}
use Rattle.teco_verifier.specs.facts.Motions.{motion}
use Rattle.teco_verifier.specs.facts.Pages.{pages}
use Rattle.teco_verifier.specs.facts.Queries.{value_for, facts_after_query}
use Rattle.teco_verifier.specs.facts.Searches.{facts_at_search, facts_found, facts_failed, facts_of_answer}
use Rattle.teco_verifier.specs.facts.Shifts.{Foreseen, facts_answered}
use Rattle.teco_verifier.specs.facts.Storages.{storage, stack}
use Rattle.teco_verifier.specs.facts.Typings.{typing}
use Rattle.teco_verifier.specs.facts.Values.{single, value_in, size, pointer}

-- An element where it stands: whether the register that it names is one of the library's, whether it stands in an
-- iteration of its own text, whether a search counts as having a colon, and how many iterations its skip leaves.
pub record Placed : Type 0 where
  pub element : Element
  pub library : Bool
  pub inside : Bool
  pub colon : Bool
  pub leaves : ℕ

-- the levels behind an element that changes them alone
abbrev pub levels_after : Argument → List ℕ → Distances → KnownArguments → Result KnownArguments RefusalReason
levels_after DropAll text distances arguments = Ok no_arguments
levels_after Digits text distances arguments =
    with_level arguments (level_with distances (single (run_value text)) arguments.level)
levels_after (Operate operator) text distances arguments =
    with_level arguments (level_with_operator operator arguments.level)
levels_after Open text distances arguments = Ok (levels_after_open arguments)
levels_after Close text distances arguments = levels_closed_onto distances arguments.level arguments.outer
levels_after Comma text distances arguments =
    with_level arguments (level_after_comma distances arguments.level)

abbrev pub facts_after_levels : Result KnownArguments RefusalReason → Facts → Result Facts RefusalReason
facts_after_levels changed facts = do
  arguments ← changed
  Ok (with_arguments arguments facts)

abbrev pub facts_after_argument : Argument → List ℕ → Facts → Result Facts RefusalReason
facts_after_argument a text facts =
    facts_after_levels (levels_after a text facts.position.distances facts.arguments) facts

-- minus the length of a text
abbrev pub last_length : Interval
last_length = record { lo = neg_ℤ (pos LIMIT); hi = pos 0 }

-- the level with a value that the machine has; ^Y is not verified
abbrev pub level_with_value : Given → Distances → KnownLevel → Result KnownLevel RefusalReason
level_with_value Begin distances level = level_with distances (single (pos 0)) level
level_with_value Size distances level = level_with distances size level
level_with_value Pointer distances level = level_with distances pointer level
level_with_value Whole distances level = level_with_pair distances (single (pos 0)) size level
level_with_value LastLength distances level = level_with distances (value_in last_length) level
level_with_value LastText distances level = Err refusal.Unverified

abbrev pub facts_after_value : Given → Facts → Result Facts RefusalReason
facts_after_value v facts =
    let level = level_with_value v facts.position.distances facts.arguments.level in
    facts_after_levels (with_level facts.arguments level) facts

-- what a command does with the arguments that it took
abbrev pub execution : Command → Placed → KnownTaken → Facts → Result Foreseen RefusalReason
execution (command.Motion m) x taken facts = motion m x.element.colons taken facts
execution (command.Deletion unit) x taken facts = deletion unit taken facts
execution (command.Insertion i) x taken facts = insertion i x.element.text taken facts
execution (command.Typing t) x taken facts = typing t taken facts
execution (command.Storage s) x taken facts = storage s x.library x.element.colons x.element.text taken facts

-- an element takes its arguments, and then gives what it answers
abbrev pub after_taking : (KnownTaken → Facts → Result Foreseen RefusalReason) → Facts → Result Facts RefusalReason
after_taking act facts = do
  taken ← arguments_of facts.arguments.level
  known ← act taken (with_arguments (levels_after_taking facts.arguments) facts)
  Ok (facts_answered known)

abbrev pub facts_after_command : Command → Placed → Facts → Result Facts RefusalReason
facts_after_command c x facts = after_taking (execution c x) facts

abbrev pub facts_after_page : Page → Facts → Result Facts RefusalReason
facts_after_page p facts = after_taking (pages p) facts

-- an element that goes on behind itself
abbrev pub on : Result Facts RefusalReason → Result Edges RefusalReason
on changed = do
  facts ← changed
  Ok (goes_on facts)

-- A search that counts as having a colon answers; any other is verified in an iteration alone, goes on where it
-- found, and where it failed leaves that.
abbrev pub search_allowed : Bool → Bool → Result (Unit {0}) RefusalReason
search_allowed inside colon = if inside || colon then Ok tt else Err refusal.Unverified

abbrev pub search_outcomes : Bool → Facts → Facts → Result Edges RefusalReason
search_outcomes true found failed = on (facts_of_answer found failed)
search_outcomes false found failed = Ok (record { on = Some found; away = Some (leaving 1 failed) })

abbrev pub search_edges : Search → Placed → Facts → Result Edges RefusalReason
search_edges s x facts = do
  taken ← facts_at_search s facts
  allowed ← search_allowed x.inside x.colon
  found ← facts_found s x.element taken
  search_outcomes x.colon found (facts_failed s x.element.colons taken)

-- the other elements of files are not verified; their arguments are taken first
abbrev pub file_edges : Facts → Result Edges RefusalReason
file_edges facts = do
  taken ← arguments_of facts.arguments.level
  Err refusal.Unverified

-- A search's answer is told apart by the next element alone, and only by a test.
abbrev pub answer_for : Kind → Facts → Option Answer
answer_for (kind.Flow flow.Leave) facts = facts.answer
answer_for (kind.Flow (flow.Test test)) facts = facts.answer
answer_for k facts = None

abbrev pub without_answer : Facts → Facts
without_answer facts = record facts { answer = None }

-- the edges behind an element of a kind
abbrev pub edges_of : Kind → Placed → Option Answer → Facts → Result Edges RefusalReason
edges_of (kind.Argument a) x answer facts = on (facts_after_argument a x.element.text facts)
edges_of (kind.Value v) x answer facts = on (facts_after_value v facts)
edges_of (kind.Query q) x answer facts =
    on (facts_after_query q x.element.colons (value_for q x.element.colons facts.arguments.level) facts)
edges_of (kind.Stack s) x answer facts = on (stack s x.library facts)
edges_of (kind.Call c) x answer facts = Ok (goes_on facts)
edges_of (kind.Flow f) x answer facts = flow_edges f x.element.colons x.leaves answer facts
edges_of (kind.Command c) x answer facts = on (facts_after_command c x facts)
edges_of (kind.Page p) x answer facts = on (facts_after_page p facts)
edges_of (kind.Search s) x answer facts = search_edges s x facts
edges_of (kind.File f) x answer facts = file_edges facts

unfoldable pub transfer : Placed → Facts → Result Edges RefusalReason
transfer x facts = edges_of x.element.kind x (answer_for x.element.kind facts) (without_answer facts)

-- the end of a called text goes back, and leaves the arguments
abbrev pub transfer_return : Facts → Edges
transfer_return facts = goes_on (without_answer facts)
