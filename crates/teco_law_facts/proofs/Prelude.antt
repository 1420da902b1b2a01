-- The names that the proofs of this crate share.
pub use Rattle.std.proofs.Common.{Bool, Err, FitsSigned, IfOk, IfSome, List, MatchOption, None, Ok, Option, Result}
pub use Rattle.std.proofs.Common.{Some, [], ap, arith, cond, drop, false, get_or, inl, inr, int_le, int_lt, length}
pub use Rattle.std.proofs.Common.{length-append, length-drop, length-take, map, min, nat_le, neg_ℤ, negsuc, not, ok_or}
pub use Rattle.std.proofs.Common.{option_map, pos, refl, replicate, set, subst, suc, sym, true, w32, zero, ℕ, ℤ, ◌&&◌}
pub use Rattle.std.proofs.Common.{◌*ℤ◌, ◌++◌, ◌+ℤ◌, ◌+◌, ◌-ℤ◌, ◌-◌, ◌<◌, ◌==◌, ◌||◌, ◌∙◌, ◌∷◌, ◌≡◌, ◌≤ℤ◌, ◌≤◌}
pub use Rattle.std.proofs.lemmas.Bool.Decides.{nat_tests}
pub use Rattle.std.proofs.lemmas.Int.{SFits-int_wrap, clamps, ints}
pub use Rattle.std.proofs.lemmas.List.{length-map}
pub use Rattle.std.specs.Int.{int_max, int_min}
pub use Rattle.std.specs.List.{AllByRecursion}
pub use Rattle.std.specs.Option.{option_map_or}
pub use Rattle.std.specs.Prelude.{IsTrue, unwrap_or, ⊤}
pub use Rattle.teco_base.proofs.Results.{ok_any, ok_then}
pub use Rattle.teco_base.specs.Arithmetic.{and, in_32_bits, or}
pub use Rattle.teco_base.specs.Text.{text_after_replacement}
pub use Rattle.teco_base.specs.declared.TheConstants.{LIMIT, REGISTERS}
pub use Rattle.teco_base.specs.declared.bytes.TheConstants.{FF}
pub use Rattle.teco_base.specs.declared.code.Code.{Code}
pub use Rattle.teco_law_facts.specs.Describes.{Answers, AreEach, ArePending, ArePushed, AreSaved, Describes, HasFallen}
pub use Rattle.teco_law_facts.specs.Describes.{Holds, IsAt, IsLevel, IsOptional, IsTaken, IsWhole, IsWholePair, Run}
pub use Rattle.teco_law_facts.specs.Describes.{back_of, fore_of, run_behind, run_in_turn}
pub use Rattle.teco_law_facts.specs.Laws.{IsTold}
pub use Rattle.teco_law_facts.specs.SoundElements.{Arrives, ArrivesOn, Fits, FitsOn, Leads, Succeeds}
pub use Rattle.teco_law_facts.specs.SoundFlow.{EndsTurn, EntersOr, IsReached, LeavingOr, Tells, number_needed}
pub use Rattle.teco_law_facts.specs.SoundPages.{Appends, Comes, ComesTo, IsTurnOrWrite, PagesAtMost, TurnsPages}
pub use Rattle.teco_law_facts.specs.SoundSearches.{IsInBuffer, MissArrives, SearchArrives, answer_where, finding}
pub use Rattle.teco_law_facts.specs.SoundSeeking.{IsInPages, IsSeeking, LooksOn, MissComes, Seeks, facts_seeking}
pub use Rattle.teco_law_facts.specs.SoundSteps.{BeginsAt, FlowGoes, FlowStands, GoesBehind, IsInside, IsNamed}
pub use Rattle.teco_law_facts.specs.SoundSteps.{IsUnderway, KindEnds, KindStands, LeadsAhead, Proceeds}
pub use Rattle.teco_model.proofs.Bytes.{all_at, empty_whole}
pub use Rattle.teco_model.specs.Ahead.{Whole}
unfoldable pub use Rattle.teco_model.specs.Ahead.{readings}
pub use Rattle.teco_model.specs.Arguments.{Arguments}
pub use Rattle.teco_model.specs.Condition.{holds, is_zero}
pub use Rattle.teco_model.specs.Conversion.{number_at}
pub use Rattle.teco_model.specs.Effect.{Effect, needed_value, no_answer}
pub use Rattle.teco_model.specs.Element.{Element}
pub use Rattle.teco_model.specs.Files.{Input, Output}
pub use Rattle.teco_model.specs.Flow.{Turn}
pub use Rattle.teco_model.specs.Going.{After, after, settle}
unfoldable pub use Rattle.teco_model.specs.Letters.{letters}
pub use Rattle.teco_model.specs.Pages.{behind_form_feed, first_page}
pub use Rattle.teco_model.specs.Paging.{Met, Turned, unread, unread_of}
pub use Rattle.teco_model.specs.Pattern.{Pattern, minimum}
unfoldable pub use Rattle.teco_model.specs.Pattern.{parts}
pub use Rattle.teco_model.specs.Places.{part_named, place_in}
pub use Rattle.teco_model.specs.Registers.{Pair, empty_pair}
pub use Rattle.teco_model.specs.Search.{Finding, Found, Missed}
pub use Rattle.teco_model.specs.Skip.{skip_of}
pub use Rattle.teco_model.specs.State.{Frame, Kept, Next, Outcome, State, World}
unfoldable pub use Rattle.teco_model.specs.Step.{step}
pub use Rattle.teco_model.specs.declared.arguments.Level.{Level}
pub use Rattle.teco_model.specs.declared.arguments.Operator.{Operator}
pub use Rattle.teco_model.specs.declared.arguments.Operator.TheVariants.{And, Minus, Or, Over, Plus, Times}
pub use Rattle.teco_model.specs.declared.arguments.Taken.{Taken}
pub use Rattle.teco_model.specs.declared.flow.Loop.{Loop}
pub use Rattle.teco_model.specs.declared.kind.Flow.{Flow}
pub use Rattle.teco_model.specs.declared.kind.Kind.{Kind}
pub use Rattle.teco_model.specs.declared.kind.Page.{Page}
pub use Rattle.teco_model.specs.declared.kind.Query.{Query}
pub use Rattle.teco_model.specs.declared.kind.Search.{Search}
pub use Rattle.teco_model.specs.declared.kind.Search.TheVariants.{Find, FindInPages, Replace, ReplaceInPages}
pub use Rattle.teco_model.specs.declared.kind.Test.{Test}
pub use Rattle.teco_model.specs.declared.pattern.Sought.{Sought}
pub use Rattle.teco_model.specs.declared.pattern.Sought.TheVariants.{Last, Wanted}
pub use Rattle.teco_model.specs.declared.pattern.Span.{Span, Span as Part}
pub use Rattle.teco_model.specs.laws.Matching.{IsMatch}
pub use Rattle.teco_poly.proofs.Lawful.{value_of_sum, values_compare, values_of_constants}
pub use Rattle.teco_poly.specs.Polynomial.{Polynomial, add, number, value}
pub use Rattle.teco_verifier.specs.declared.refusal.RefusalReason.{RefusalReason}
pub use Rattle.teco_verifier.specs.declared.values.Distances.{Distances}
pub use Rattle.teco_verifier.specs.declared.values.Interval.{Interval}
pub use Rattle.teco_verifier.specs.declared.values.Value.{Value}
pub use Rattle.teco_verifier.specs.facts.Arguments.{KnownArguments, KnownLevel, KnownTaken}
pub use Rattle.teco_verifier.specs.facts.Attempt.{◌>>=◌}
pub use Rattle.teco_verifier.specs.facts.Covers.{covers_interval, covers_length, covers_saved}
pub use Rattle.teco_verifier.specs.facts.Deletions.{positive}
pub use Rattle.teco_verifier.specs.facts.Facts.{Answer, Facts, Iteration, Position, Pushed, at_position, none_saved}
pub use Rattle.teco_verifier.specs.facts.Facts.{nowhere, number_of, sum_of, with_arguments, without_arguments}
pub use Rattle.teco_verifier.specs.facts.Flows.{Edges, entering, facts_taken, leaving}
pub use Rattle.teco_verifier.specs.facts.Joins.{joined_saved, none_pending}
pub use Rattle.teco_verifier.specs.facts.Motions.{count_of}
pub use Rattle.teco_verifier.specs.facts.Printed.{steps, steps_of_page, steps_of_search}
pub use Rattle.teco_verifier.specs.facts.Shifts.{Foreseen, Shift, ending, facts_answered, facts_behind, fall_after}
pub use Rattle.teco_verifier.specs.facts.Shifts.{moving, saved_after, shifted, silent, silent_behind}
pub use Rattle.teco_verifier.specs.facts.Transfer.{Placed, answer_for, edges_of, without_answer}
unfoldable pub use Rattle.teco_verifier.specs.facts.Transfer.{transfer}
pub use Rattle.teco_verifier.specs.facts.Values.{IsIn, IsPlaceIf, IsValue, IsWithin, any_number, interval_of}
pub use Rattle.teco_verifier.specs.facts.Values.{interval_sum, kept_in_32_bits, least, minus, plus, single, size}
pub use Rattle.teco_verifier.specs.facts.Values.{value_in}
pub use Rattle.teco_verifier.specs.facts.Ways.{NotPositive, Numbers, Positive, Takes, position_by, way}
