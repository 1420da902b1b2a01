-- The names that the proofs of this crate share.
pub use Rattle.std.proofs.Common.{Bool, Err, List, MatchOption, None, Ok, Option, Result, Some, [], ap, arith, drop}
pub use Rattle.std.proofs.Common.{eqb-true, false, if◌then◌else◌, inl, inr, is_some, length, length-append, length-drop}
pub use Rattle.std.proofs.Common.{map, min, nat_le, nat_lt, pos, refl, rules, slice_get, subst, suc, sym, take, true}
pub use Rattle.std.proofs.Common.{zero, ℕ, ℤ, ◌*◌, ◌++◌, ◌+◌, ◌-◌, ◌<◌, ◌==◌, ◌^◌, ◌||◌, ◌∙◌, ◌∷◌, ◌≡◌, ◌≤◌, ◌⊎◌}
pub use Rattle.std.proofs.lemmas.Bool.{cases_order, ltb-false, ltb-true}
pub use Rattle.std.proofs.lemmas.List.{length-map}
unfoldable pub use Rattle.std.specs.Fmt.{digits}
unfoldable pub use Rattle.std.specs.Int.{int_wrap}
pub use Rattle.std.specs.List.{AllByRecursion}
pub use Rattle.std.specs.Option.{option_map_or}
pub use Rattle.std.specs.Prelude.{IsTrue, ⊤}
pub use Rattle.teco_base.specs.declared.TheConstants.{LIMIT, REGISTERS}
pub use Rattle.teco_base.specs.declared.code.Code.{Code}
pub use Rattle.teco_law_facts.proofs.Covering.{and_both, covers_are_sound}
pub use Rattle.teco_law_facts.specs.Describes.{Describes, HasFallen, IsWhole, Run, fore_of, run_behind}
pub use Rattle.teco_law_facts.specs.Laws.{entered}
pub use Rattle.teco_law_facts.specs.SoundElements.{Fits, FitsOn}
pub use Rattle.teco_law_facts.specs.SoundSteps.{BeginsAt, KindEnds}
pub use Rattle.teco_law_runs.proofs.Lookup.{node_of, number_within, same_node, same_number}
pub use Rattle.teco_law_runs.proofs.Pending.{CallLaws, other_next}
pub use Rattle.teco_law_runs.proofs.Walking.{none_more, none_yet, one_step, reaches_here, reaches_later, reaches_more}
pub use Rattle.teco_law_runs.proofs.Walking.{reaches_none, reads_none, same_next}
pub use Rattle.teco_law_runs.specs.Ending.{EndsWithin}
pub use Rattle.teco_law_runs.specs.Ends.{AreClosed, Descend, IsBegin, IterationsEnd, LeftHaveEnded}
pub use Rattle.teco_law_runs.specs.Given.{BeginsPending, call_given, start_given, start_pending}
pub use Rattle.teco_law_runs.specs.Iterations.{AreOpenIn, IterationsAreOpen}
pub use Rattle.teco_law_runs.specs.Leading.{LeadsBy, LeadsByKind, WaysLead, place_at}
pub use Rattle.teco_law_runs.specs.Linked.{AreLinked, NodesAreSound}
pub use Rattle.teco_law_runs.specs.Ready.{AreOpen, IsReady}
pub use Rattle.teco_law_runs.specs.Run.{GoesTo, MovesFrom, Stayed}
pub use Rattle.teco_law_runs.specs.Staying.{NoFileCommands}
pub use Rattle.teco_law_runs.specs.Steps.{IsLeftAt, is_long}
pub use Rattle.teco_law_runs.specs.Turns.{Went}
pub use Rattle.teco_law_runs.specs.Was.{ElementWas, StepWas, Turns}
pub use Rattle.teco_law_tables.specs.Ending.{ElementsPass, Passes, RunsEndInTime}
pub use Rattle.teco_law_tables.specs.Following.{AreMore, AreOpened, IsDescribed, IsOpened, OpenTurn, begun_of, held_of}
pub use Rattle.teco_law_tables.specs.Following.{loops_in, loops_of, open_loops, run_at, shown}
pub use Rattle.teco_law_runs.specs.Framing.{LiesBelow}
pub use Rattle.teco_law_tables.specs.Laws.{TablesAreClosed}
pub use Rattle.teco_law_tables.specs.Moving.{Again, Alone, Comes, ComesOn, IsLast, IsLong, MovesOn, On, Over, StepsMove}
pub use Rattle.teco_law_tables.specs.Moving.{left_along, left_by_flow, left_by_kind, run_along, run_by_flow}
pub use Rattle.teco_law_tables.specs.Moving.{run_by_kind}
pub use Rattle.teco_law_tables.specs.Turning.{begins_of, held_at, is_reached, iterations_at, iterations_of, own_of}
pub use Rattle.teco_law_tables.specs.Turning.{turning, value_of}
pub use Rattle.teco_law_tables.specs.straight_text.Facts.{facts_behind_insertions, rows_in_text, straight_table}
pub use Rattle.teco_law_tables.specs.straight_text.Nodes.{call_element, node_going_on, nodes_in_text, stand_in_text}
pub use Rattle.teco_law_tables.specs.straight_text.Nodes.{straight_nodes}
pub use Rattle.teco_law_tables.specs.straight_text.Straight.{AreRead, IsStraight, IsStraightElement, IsStraightKind}
pub use Rattle.teco_law_tables.specs.straight_text.Straight.{inserted, inserted_by, inserted_by_kind}
pub use Rattle.teco_law_turns.specs.Moves.{Back, FallFollows, Forward, Into, Move, OpenLoop, State as Shown, still_open}
pub use Rattle.teco_law_turns.specs.Nests.{Begin, onward}
pub use Rattle.teco_law_turns.specs.Table.{commands as steps_in}
pub use Rattle.teco_model.proofs.Ahead.{element_at-again}
pub use Rattle.teco_model.proofs.Chains.{bound, some_of}
pub use Rattle.teco_model.specs.Ahead.{Whole}
unfoldable pub use Rattle.teco_model.specs.Ahead.{readings}
pub use Rattle.teco_model.specs.Arguments.{Arguments}
pub use Rattle.teco_model.specs.Checked.{◌>>=◌}
pub use Rattle.teco_model.specs.Element.{Element}
unfoldable pub use Rattle.teco_model.specs.Element.{blank_len, element_at, element_from}
pub use Rattle.teco_model.specs.Flow.{Turn}
unfoldable pub use Rattle.teco_model.specs.Letters.{letters}
pub use Rattle.teco_model.specs.Macros.{ArgumentRange, IsAsked, IsLoaded, Library, macro}
pub use Rattle.teco_model.specs.Paging.{unread_of}
pub use Rattle.teco_model.specs.Registers.{Pair}
pub use Rattle.teco_model.specs.Run.{Reaches, go_on}
unfoldable pub use Rattle.teco_model.specs.Run.{run}
pub use Rattle.teco_model.specs.Skip.{skip_of}
pub use Rattle.teco_model.specs.State.{End, Frame, Frames, Kept, Next, Outcome, State, World, start}
pub use Rattle.teco_model.specs.Step.{outcome_at}
unfoldable pub use Rattle.teco_model.specs.Step.{reply_of, step}
pub use Rattle.teco_model.specs.declared.arguments.Taken.{Taken}
pub use Rattle.teco_model.specs.declared.flow.Loop.{Loop}
pub use Rattle.teco_model.specs.declared.kind.Argument.TheVariants.{DropAll}
pub use Rattle.teco_model.specs.declared.kind.Flow.{Flow}
pub use Rattle.teco_model.specs.declared.kind.Insertion.TheVariants.{Text}
pub use Rattle.teco_model.specs.declared.kind.Kind.{Kind}
pub use Rattle.teco_model.specs.declared.kind.Page.{Page}
pub use Rattle.teco_model.specs.declared.kind.Search.{Search}
pub use Rattle.teco_poly.proofs.Lawful.{values_compare, values_of_constants}
pub use Rattle.teco_poly.specs.Polynomial.{Polynomial, number, value}
pub use Rattle.teco_verifier.specs.declared.refusal.RefusalReason.{RefusalReason}
pub use Rattle.teco_verifier.specs.declared.values.Value.{Value}
pub use Rattle.teco_verifier.specs.expansion.Ends.{end_of}
pub use Rattle.teco_verifier.specs.expansion.Expansion.{MOST_ELEMENTS, Walk, first_visit}
unfoldable pub use Rattle.teco_verifier.specs.expansion.Expansion.{expansion, next_visit, node_at, nodes_at, walk}
unfoldable pub use Rattle.teco_verifier.specs.expansion.Expansion.{way_numbers}
pub use Rattle.teco_verifier.specs.expansion.Names.{names_macro}
pub use Rattle.teco_verifier.specs.expansion.Node.{Node, Stand, base_of, beginning, numbered, over, stand_at, stands}
pub use Rattle.teco_verifier.specs.expansion.Position.{Position, Spot, position_of, position_of_frames, start_of}
pub use Rattle.teco_verifier.specs.expansion.Ways.{element_ways}
unfoldable pub use Rattle.teco_verifier.specs.expansion.Ways.{flow_ways, read_at, ways_at}
pub use Rattle.teco_verifier.specs.facts.Arguments.{KnownTaken, arguments_of}
pub use Rattle.teco_verifier.specs.facts.Bodies.{Changes, Choice, begins, body_start, stands as choice_stands}
pub use Rattle.teco_verifier.specs.facts.Covers.{covers, each_covers, is_same_iteration}
pub use Rattle.teco_verifier.specs.facts.Facts.{Facts, Iteration, join_of, sum_of}
pub use Rattle.teco_verifier.specs.facts.Flows.{Edges, goes_on}
pub use Rattle.teco_verifier.specs.facts.Printed.{needs, no_needs, steps}
pub use Rattle.teco_verifier.specs.facts.Transfer.{Placed, answer_for, edges_of, without_answer}
unfoldable pub use Rattle.teco_verifier.specs.facts.Transfer.{transfer}
pub use Rattle.teco_verifier.specs.table.Behind.{along, along_kind, begins_turn, edges_at, edges_behind, left_by}
pub use Rattle.teco_verifier.specs.table.Behind.{placed, turns_by_flow, turns_by_kind}
pub use Rattle.teco_verifier.specs.table.Closed.{arrives, begins_by_kind, begins_iteration, body_stands, check_from}
pub use Rattle.teco_verifier.specs.table.Closed.{closed_at, closed_behind, closed_where, enters_at, enters_by}
pub use Rattle.teco_verifier.specs.table.Closed.{is_counted, is_entered, is_entry, is_known_in, say_same}
unfoldable pub use Rattle.teco_verifier.specs.table.Closed.{check, check_nodes}
unfoldable pub use Rattle.teco_verifier.specs.table.Deriving.{derive}
pub use Rattle.teco_verifier.specs.table.Printed.{IsPrinted, at_node, count_from, counted_with, joined_with, needs_from}
pub use Rattle.teco_verifier.specs.table.Printed.{size_from, sized_with, steps_before, steps_of, turns_at, weight}
unfoldable pub use Rattle.teco_verifier.specs.table.Printed.{commands, needs_in, size}
pub use Rattle.teco_verifier.specs.table.Table.{Table, choice_at, facts_at}
pub use Rattle.teco_verifier.specs.table.Written.{changes_in}
