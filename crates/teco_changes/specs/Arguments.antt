-- What is known of the numeric argument that is pending before an element, and what is known of it behind the element.
use Rattle.std.specs.Prelude.{◌≡◌, ◌≢◌, ℕ, ℤ, List, Option, Some, None, Ok, ⊤}
use Rattle.teco_changes.specs.declared.argument.NumericArgument.{NumericArgument}
use Rattle.teco_changes.specs.declared.argument.NumericArgument.TheVariants as known
use Rattle.teco_model.specs.Arguments.{final_value, run_value}
use Rattle.teco_model.specs.Element.{Element}
use Rattle.teco_model.specs.declared.arguments.Level.{Level}
use Rattle.teco_model.specs.declared.kind.Argument.{Argument}
use Rattle.teco_model.specs.declared.kind.Argument.TheVariants as argument
use Rattle.teco_model.specs.declared.kind.Flow.{Flow}
use Rattle.teco_model.specs.declared.kind.Flow.TheVariants as flow
use Rattle.teco_model.specs.declared.kind.Kind.{Kind}
use Rattle.teco_model.specs.declared.kind.Kind.TheVariants as kind
use Rattle.teco_model.specs.declared.kind.Query.{Query}
use Rattle.teco_model.specs.declared.kind.Query.TheVariants as query

-- what is known is so of the pending level
abbrev pub IsSo : NumericArgument → Level → Type 0
IsSo known.Unreached level = ⊥
IsSo known.Unknown level = ⊤
IsSo known.Complete level = level.operator ≡ None
IsSo known.Number level = final_value level ≢ Ok None
IsSo known.Value level = (level.operator ≡ None) × (level.value ≢ None)
IsSo (known.Exactly n) level = (level.operator ≡ None) × (level.value ≡ Some n)

-- all that is known of one is known of the other
abbrev pub Implies : NumericArgument → NumericArgument → Type 0
Implies one other = (level : Level) → IsSo one level → IsSo other level

-- Digits are the number, if no operator stands before them.
abbrev pub behind_digits : ℤ → NumericArgument → NumericArgument
behind_digits n known.Unknown = known.Value
behind_digits n known.Number = known.Value
behind_digits n before = known.Exactly n

-- An operator may stand alone: it is a number then.
abbrev pub behind_argument : Argument → List ℕ → NumericArgument → NumericArgument
behind_argument argument.Digits digits before = behind_digits (run_value digits) before
behind_argument (argument.Operate operator) digits before = known.Number
behind_argument argument.Close digits before = known.Value
behind_argument a digits before = known.Complete

-- Q always gives a number
abbrev pub behind_query : Query → NumericArgument
behind_query (query.Number register) = known.Value
behind_query q = known.Complete

-- | and ', what goes ahead to them, and comments leave the argument
abbrev pub behind_flow : Flow → NumericArgument → NumericArgument
behind_flow flow.Otherwise before = before
behind_flow flow.EndTest before = before
behind_flow flow.Comment before = before
behind_flow (flow.GoAhead goal) before = before
behind_flow f before = known.Complete

-- so do [ ] and M; all other elements take it
abbrev pub behind_kind : Kind → List ℕ → NumericArgument → NumericArgument
behind_kind (kind.Argument a) text before = behind_argument a text before
behind_kind (kind.Value v) text before = known.Value
behind_kind (kind.Query q) text before = behind_query q
behind_kind (kind.Stack s) text before = before
behind_kind (kind.Call c) text before = before
behind_kind (kind.Flow f) text before = behind_flow f before
behind_kind k text before = known.Complete

-- The end of a text leaves it, too.
abbrev pub behind : Option Element → NumericArgument → NumericArgument
behind read known.Unreached = known.Unreached
behind None before = before
behind (Some e) before = behind_kind e.kind e.text before
