-- The names that the proofs of this crate share.
pub use Rattle.std.proofs.Common.{Bool, Err, IfOk, List, None, Ok, Option, Result, Some, [], ap, arith, false, get_or}
pub use Rattle.std.proofs.Common.{if◌then◌else◌, inl, inr, length, map, nat_lt, option_map, refl, slice_get}
pub use Rattle.std.proofs.Common.{slice_index_or, subst, suc, sym, take, true, zero, ℕ, ◌%◌, ◌*◌, ◌++◌, ◌+◌, ◌-◌, ◌/◌}
pub use Rattle.std.proofs.Common.{◌<◌, ◌==◌, ◌^◌, ◌∙◌, ◌∷◌, ◌≡◌, ◌≤◌, ◌⊎◌}
pub use Rattle.std.proofs.lemmas.Bool.{cases_order, ltb-false, ltb-true}
pub use Rattle.std.proofs.lemmas.Int.{ints}
pub use Rattle.std.specs.Bool.{OnTrue}
pub use Rattle.std.specs.List.{All, Any}
pub use Rattle.std.specs.Option.{option_map_or}
pub use Rattle.std.specs.Prelude.{OnOk, is_some, negsuc, option_and_then, pos, unwrap_or, ℤ, ◌*ℤ◌, ◌+ℤ◌, ◌-ℤ◌, ◌≤ℤ◌}
pub use Rattle.teco_base.specs.declared.TheConstants.{LIMIT, REGISTERS}
pub use Rattle.teco_flow_outcomes.specs.Flow.{turned}
pub use Rattle.teco_flow_outcomes.specs.Law.{Goes, StepsTo, loops_in, point_of}
pub use Rattle.teco_law_runs.specs.Iterations.{IterationsAreOpen}
pub use Rattle.teco_law_runs.specs.Linked.{AreLinked, NodesAreSound}
pub use Rattle.teco_law_runs.specs.Run.{GoesTo, StepsGoAlongNodes}
pub use Rattle.teco_law_runs.specs.Steps.{IsLeftAt}
pub use Rattle.teco_law_runs.specs.Ready.{AreOpen}
pub use Rattle.teco_law_runs.specs.Staying.{NoFileCommands}
pub use Rattle.teco_linear.specs.Form.{Valuation, value, values}
pub use Rattle.teco_linear.specs.Implied.{Holds, Implies}
pub use Rattle.teco_linear.specs.declared.difference.Difference.{Difference}
pub use Rattle.teco_linear.specs.declared.term.Term.{Term}
pub use Rattle.teco_model.specs.Ahead.{Whole}
pub use Rattle.teco_model.specs.Element.{Element, element_at, seen}
pub use Rattle.teco_model.specs.Macros.{ArgumentRange, IsAsked, IsLoaded, Library, Needs}
pub use Rattle.teco_model.specs.Registers.{Pair}
pub use Rattle.teco_model.specs.Run.{Reaches}
pub use Rattle.teco_model.specs.Skip.{route_of, skip_of}
pub use Rattle.teco_model.specs.State.{Frame, Frames, Next, State}
unfoldable pub use Rattle.teco_model.specs.Step.{step}
pub use Rattle.teco_model.specs.Storage.{text_in}
pub use Rattle.teco_model.specs.declared.flow.Loop.{Loop}
pub use Rattle.teco_model.specs.declared.kind.Kind.{Kind}
pub use Rattle.teco_model.specs.declared.kind.Test.{Test}
pub use Rattle.teco_paths.specs.Claims.{AreFilled, ArePresent, AreSymbols, ComesTo, IsCaseOf, filled_by}
pub use Rattle.teco_paths.specs.Entry.{AreThere, IsEntered, IsEntryClaim, IsEntryCut, is_there, used_lengths}
pub use Rattle.teco_paths.specs.Facts.{IsFact}
pub use Rattle.teco_paths.specs.Paths.{Arrives, Course, Ends, IsFollowed, Leads, LeadsOn}
pub use Rattle.teco_paths.specs.Runs.{EndsBy, Ground, IsAt, IsHeldWithin, StandsBy, held_in}
pub use Rattle.teco_paths.specs.Steps.{AreLeft, ArePossible, AreSifted, AreSpots, GoOn, GoesBy}
pub use Rattle.teco_implied.specs.Implied.{AreMet, IsImpossible}
pub use Rattle.teco_paths.specs.Steps.{GrowsNoMore, IsInTime, IsMet, IsPlain, IsRead, IsSharper, IsSmall}
pub use Rattle.teco_implied.specs.Implied.{IsKept}
pub use Rattle.teco_paths.specs.Steps.{IsTarget, IsThere}
pub use Rattle.teco_paths.specs.Steps.{IsTold, IsWith, LawAt, Passes, Steps, TypesNoMore, cases_by}
pub use Rattle.teco_paths.specs.Sure.{IsCertain}
pub use Rattle.teco_paths.specs.Symbols.{family_of, measure_of, numbers_of, single_of}
pub use Rattle.teco_paths.specs.declared.cut.CutState.{CutState}
pub use Rattle.teco_paths.specs.declared.facts.TheConstants.{MOST_BELOW, MOST_NUMBER, ORDER}
pub use Rattle.teco_paths.specs.declared.spot.NodeCase.{NodeCase}
pub use Rattle.teco_poly.specs.Polynomial.{Polynomial}
pub use Rattle.teco_promise.specs.Promise.{IsWithin, most_with}
pub use Rattle.teco_rows.proofs.Lines.{line_end}
pub use Rattle.teco_rows.specs.Cases.{value_if}
pub use Rattle.teco_rows.specs.Measures.{place}
pub use Rattle.teco_rows.specs.States.{Describes, IsShape, IsTrueOf, Point, from_end, length_of, measures_of, number_of}
pub use Rattle.teco_rows.specs.States.{single}
pub use Rattle.teco_rows.specs.declared.case.Case.{Case}
pub use Rattle.teco_rows.specs.declared.measure.Family.{Family}
pub use Rattle.teco_rows.specs.declared.measure.Family.TheVariants.{First, Length, Number, PushedLength, PushedNumber}
pub use Rattle.teco_rows.specs.declared.measure.Family.TheVariants.{Turns, Value}
pub use Rattle.teco_rows.specs.declared.measure.Measure.{Measure}
pub use Rattle.teco_rows.specs.declared.measure.Measure.TheVariants.{Each, One}
pub use Rattle.teco_rows.specs.declared.measure.Single.TheVariants.{LineEnd, Pointer, Size, Typed, EntryHeld}
pub use Rattle.teco_rows.specs.declared.outcomes.Guarded.{Guarded}
pub use Rattle.teco_rows.specs.declared.outcomes.Outcomes.{Outcomes}
pub use Rattle.teco_search_outcomes.specs.PageSearches.{Comes}
pub use Rattle.teco_verifier.specs.expansion.Node.{Node, Stand, numbered, stands}
pub use Rattle.teco_verifier.specs.expansion.Position.{Position, position_of, spot_of, start_of}
unfoldable pub use Rattle.teco_verifier.specs.expansion.Ways.{ways_at}
pub use Rattle.teco_verifier.specs.table.Printed.{steps_before}
