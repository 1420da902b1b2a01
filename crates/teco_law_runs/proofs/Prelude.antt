-- The names that the proofs of this crate share.
pub use Rattle.std.proofs.Common.{Bool, Err, List, None, Ok, Option, Result, Some, [], ap, arith, drop, eqb-true, false}
pub use Rattle.std.proofs.Common.{get_or, if◌then◌else◌, inl, inr, length, length-append, length-drop, map, nat_le}
pub use Rattle.std.proofs.Common.{nat_lt, pos, refl, rules, slice_get, subst, suc, sym, take, true, zero, ℕ, ℤ, ◌++◌}
pub use Rattle.std.proofs.Common.{◌+◌, ◌-◌, ◌<◌, ◌==◌, ◌^◌, ◌∙◌, ◌∷◌, ◌≡◌, ◌≤◌, ◌⊎◌}
pub use Rattle.std.proofs.lemmas.Bool.{cases_order, leb-true, ltb-false, ltb-true}
pub use Rattle.std.proofs.lemmas.Int.{ints}
pub use Rattle.std.proofs.lemmas.List.{length-map}
pub use Rattle.std.specs.List.{AllByRecursion}
pub use Rattle.std.specs.Option.{ok_or, option_map, option_map_or}
pub use Rattle.std.specs.Prelude.{⊤}
pub use Rattle.teco_base.specs.Register.{register_name, register_of}
pub use Rattle.teco_base.specs.declared.TheConstants.{REGISTERS}
pub use Rattle.teco_base.specs.declared.code.Code.{Code}
pub use Rattle.teco_law_runs.specs.Alike.{AreAlike, AreOutcomesAlike, Calling, CallsLast, ReadingsAreAlike}
pub use Rattle.teco_law_runs.specs.Alike.{RunsAreAlike, StepsAreAlike}
pub use Rattle.teco_law_runs.specs.Ending.{EndsWithin}
pub use Rattle.teco_law_runs.specs.Given.{NumbersArePending, start_pending}
pub use Rattle.teco_law_runs.specs.Iterations.{AreOpen, AreOpenIn, IsOpen, body_at}
pub use Rattle.teco_law_runs.specs.Linked.{AreLinked, IsLinked, IsNext, Lead}
pub use Rattle.teco_law_runs.specs.Loaded.{Keeps}
pub use Rattle.teco_law_runs.specs.Staying.{AreAsOpen, NoFileCommands, ReadsNoFileCommand, changes_files, is_of_files}
pub use Rattle.teco_law_runs.specs.Steps.{IsLeftAt, Moves}
pub use Rattle.teco_law_runs.specs.Sure.{ComesTo}
pub use Rattle.teco_law_runs.specs.Turns.{Jumps, Went}
pub use Rattle.teco_model.proofs.Chains.{bound, ok, some_of}
pub use Rattle.teco_model.proofs.upkeep.Replies.{kept_by_step}
pub use Rattle.teco_model.specs.Ahead.{Whole}
unfoldable pub use Rattle.teco_model.specs.Ahead.{reading_at, readings}
pub use Rattle.teco_model.specs.Arguments.{Arguments, arguments_of, levels_after_answer, levels_after_taking}
pub use Rattle.teco_model.specs.Arguments.{no_arguments}
pub use Rattle.teco_model.specs.Element.{Element, blank_end}
unfoldable pub use Rattle.teco_model.specs.Element.{blank_len, element_at, element_from}
pub use Rattle.teco_model.specs.Flow.{Turn, jump, turn_of}
pub use Rattle.teco_model.specs.Going.{Behind, Course, Into, Reply, frames_in, settle, settled}
unfoldable pub use Rattle.teco_model.specs.Letters.{letters}
pub use Rattle.teco_model.specs.Macros.{IsLoaded, Library, call_of, is_macro, macro}
pub use Rattle.teco_model.specs.Registers.{pair_of}
pub use Rattle.teco_model.specs.Run.{Ends, Reaches, go_on}
unfoldable pub use Rattle.teco_model.specs.Run.{run}
pub use Rattle.teco_model.specs.Searching.{has_colon}
pub use Rattle.teco_model.specs.Skip.{skip_of}
pub use Rattle.teco_model.specs.State.{Absent, End, Exit, Fail, Frame, Kept, Next, Outcome, State, World, frame_of}
pub use Rattle.teco_model.specs.State.{start}
pub use Rattle.teco_model.specs.Step.{end_of_text, end_outcome, outcome_at, outcome_of}
unfoldable pub use Rattle.teco_model.specs.Step.{reply_of, step}
pub use Rattle.teco_model.specs.declared.flow.Loop.{Loop}
pub use Rattle.teco_model.specs.declared.kind.Call.{Call}
pub use Rattle.teco_model.specs.declared.kind.Flow.{Flow}
pub use Rattle.teco_model.specs.declared.kind.Goal.{Goal}
pub use Rattle.teco_model.specs.declared.kind.Kind.{Kind}
pub use Rattle.teco_model.specs.declared.kind.Page.{Page}
pub use Rattle.teco_model.specs.declared.kind.Search.{Search}
pub use Rattle.teco_model.specs.declared.stop.Stop.{Stop}
pub use Rattle.teco_model.specs.laws.Upkeep.{Upkeep}
pub use Rattle.teco_verifier.specs.expansion.Ends.{end_of, ends, ends_by, ends_by_kind, first_end, is_innermost}
pub use Rattle.teco_verifier.specs.expansion.Expansion.{MOST_ELEMENTS, MOST_OPEN, Visit, Walk, all_stands, register_at}
pub use Rattle.teco_verifier.specs.expansion.Expansion.{same_stand, stand_of_visit}
unfoldable pub use Rattle.teco_verifier.specs.expansion.Expansion.{expansion, next_visit, node_at, nodes_at, walk}
unfoldable pub use Rattle.teco_verifier.specs.expansion.Expansion.{way_numbers}
pub use Rattle.teco_verifier.specs.expansion.Node.{Node, Stand, base_of, base_of_way, beginning, numbered, over}
pub use Rattle.teco_verifier.specs.expansion.Node.{stand_at, stand_of_node, stands}
pub use Rattle.teco_verifier.specs.expansion.Order.{position_behind_call, position_in_text, stand_behind}
pub use Rattle.teco_verifier.specs.expansion.Order.{stand_behind_kind}
pub use Rattle.teco_verifier.specs.expansion.Position.{Position, Spot, depth, moved_to, position_of, position_of_frames}
pub use Rattle.teco_verifier.specs.expansion.Position.{spot_at, spot_of, start_of, starts_in}
pub use Rattle.teco_verifier.specs.expansion.Refusal.{Reason, Unpaired, ◌>>=◌}
pub use Rattle.teco_verifier.specs.expansion.Ways.{ahead_ways, as_fault, call_ways, element_ways, end_ways, jump_way}
pub use Rattle.teco_verifier.specs.expansion.Ways.{jumped, leave_ways, past, pattern_parts, return_ways, search_ways}
pub use Rattle.teco_verifier.specs.expansion.Ways.{sound, way_or_jump}
unfoldable pub use Rattle.teco_verifier.specs.expansion.Ways.{flow_ways, read_at, ways_at}
