-- The names that the proofs of this crate share.
pub use Rattle.std.proofs.Common.{Bool, Err, List, None, Ok, Option, Result, Some, [], ap, arith, drop, false, get_or}
pub use Rattle.std.proofs.Common.{if◌then◌else◌, inl, inr, is_some, length, length-append, nat_le, negsuc, not}
pub use Rattle.std.proofs.Common.{option_map, pos, refl, rules, slice_get, subst, suc, sym, true, unwrap_or, zero, ℕ, ℤ}
pub use Rattle.std.proofs.Common.{◌++◌, ◌+◌, ◌-ℤ◌, ◌-◌, ◌<◌, ◌==◌, ◌∙◌, ◌∷◌, ◌≡◌, ◌≤ℤ◌, ◌≤◌}
pub use Rattle.std.proofs.lemmas.Bool.Decides.{nat_tests}
pub use Rattle.std.proofs.lemmas.Grind.{common_steps}
pub use Rattle.std.proofs.lemmas.Int.{ints}
pub use Rattle.std.proofs.lemmas.List.{append-nil, append_assoc, get_or_append_left}
pub use Rattle.std.proofs.lemmas.List.Elements.{All-head, All-pop, All-tail}
pub use Rattle.std.proofs.lemmas.Option.{slice_get_within}
pub use Rattle.std.proofs.lemmas.Result.{IfOk-weaker}
pub use Rattle.std.specs.List.{All, Any}
pub use Rattle.std.specs.Option.{ok_or, option_map_or}
pub use Rattle.std.specs.Prelude.{flat_map}
pub use Rattle.teco_base.specs.Bytes.{is_line_end}
pub use Rattle.teco_base.specs.Lines.{line_place}
pub use Rattle.teco_base.specs.Text.{text_after_replacement}
pub use Rattle.teco_base.specs.declared.TheConstants.{LIMIT}
pub use Rattle.teco_base.specs.declared.bytes.TheConstants.{FF}
pub use Rattle.teco_base.specs.declared.code.Code.{Code}
pub use Rattle.teco_motion_outcomes.proofs.Changing.{changes_plainly, changes_singles}
pub use Rattle.teco_motion_outcomes.specs.Changes.{IsChangedFrom, IsTold, read_given, with_kept, with_page}
pub use Rattle.teco_flow_outcomes.specs.Law.{Goes, StepsTo, loops_in, place_away, point_of, unread_in}
pub use Rattle.teco_linear.specs.Form.{Valuation, value}
pub use Rattle.teco_linear.specs.declared.term.Term.{Term}
pub use Rattle.teco_model.specs.Arguments.{Arguments, levels_after_taking, no_arguments}
pub use Rattle.teco_model.specs.Checked.{◌>>=◌}
pub use Rattle.teco_model.specs.Condition.{is_zero}
pub use Rattle.teco_model.specs.Element.{Element, element_at, seen}
pub use Rattle.teco_model.specs.Files.{Input, Output}
pub use Rattle.teco_model.specs.Match.{is_in, is_space_or_tab}
pub use Rattle.teco_model.specs.Outside.{going_on}
pub use Rattle.teco_model.specs.Pages.{before_form_feed, behind_first_page, behind_form_feed, first_page, written_page}
pub use Rattle.teco_model.specs.Paging.{append, files_behind_page, kept_with_page, needed_output, page_of_buffer}
pub use Rattle.teco_model.specs.Paging.{page_turned, page_written, unread, world_after_writing, yank}
pub use Rattle.teco_model.specs.Pattern.{Pattern, class_of, items_of, pattern}
unfoldable pub use Rattle.teco_model.specs.Pattern.{parts}
pub use Rattle.teco_model.specs.Registers.{Registers}
pub use Rattle.teco_model.specs.Search.{kept_after, kept_at, pattern_of, search_text_of}
pub use Rattle.teco_model.specs.Searching.{Miss, miss_of, miss_where, search_reply}
pub use Rattle.teco_model.specs.State.{Kept, State, World}
pub use Rattle.teco_model.specs.Step.{outcome_at}
unfoldable pub use Rattle.teco_model.specs.Step.{reply_of, step}
pub use Rattle.teco_model.specs.declared.kind.Search.{Search}
pub use Rattle.teco_model.specs.declared.kind.Search.TheVariants.{FindInPages, ReplaceInPages}
pub use Rattle.teco_model.specs.declared.pattern.Item.{Item}
pub use Rattle.teco_model.specs.declared.pattern.Part.{Part}
pub use Rattle.teco_model.specs.declared.pattern.Span.{Span}
pub use Rattle.teco_model.specs.laws.Matching.{HasAt, InTurn, IsFirstFrom, IsMatch}
pub use Rattle.teco_model.specs.laws.Whole.{AreBytes, IsWhole}
pub use Rattle.teco_rows.proofs.Characters.{with_codes}
pub use Rattle.teco_rows.proofs.Describing.{among}
pub use Rattle.teco_rows.proofs.Lines.{IsEnd, above_or, clash, ends, line_begin, line_end, one_begin}
pub use Rattle.teco_rows.specs.Cases.{Agree, value_if}
pub use Rattle.teco_rows.specs.Commands.{IsTaken, taken_by}
pub use Rattle.teco_rows.specs.Foretold.{Describe, IsGuarded, Succeeds}
pub use Rattle.teco_rows.specs.Rows.{changed}
pub use Rattle.teco_rows.specs.States.{Describes, IsTrueOf, Origin, Point, code_before, code_here, single}
pub use Rattle.teco_rows.specs.declared.case.Case.{Case}
pub use Rattle.teco_rows.specs.declared.commands.TakenForms.{TakenForms}
pub use Rattle.teco_rows.specs.declared.measure.Measure.TheVariants.{One}
pub use Rattle.teco_rows.specs.declared.measure.Single.{Single}
pub use Rattle.teco_rows.specs.declared.measure.Single.TheVariants.{CodeBefore, CodeHere, Held, LastLength, LineEnd}
pub use Rattle.teco_rows.specs.declared.measure.Single.TheVariants.{LineStart, Pointer, Size, Steps, Typed, EntryHeld}
pub use Rattle.teco_rows.specs.declared.outcomes.Guarded.{Guarded}
pub use Rattle.teco_rows.specs.declared.outcomes.Outcomes.{Outcomes}
pub use Rattle.teco_rows.specs.declared.row.Places.{Places}
pub use Rattle.teco_search_outcomes.specs.Pages.{PageLaw, Writes}
pub use Rattle.teco_search_outcomes.specs.Patterns.{EndsIn, IsSingle}
pub use Rattle.teco_search_outcomes.specs.Searches.{Aims, BeginsLater, Ends, HasRoom, IsAsked, IsFoundBy, IsMissed}
pub use Rattle.teco_search_outcomes.specs.Searches.{IsOf, IsReplacedBy, IsWarned, LiesTo, warned}
pub use Rattle.teco_search_outcomes.specs.declared.patterns.Codes.{Codes}
pub use Rattle.teco_search_outcomes.specs.declared.searches.Aim.{Aim}
pub use Rattle.teco_search_outcomes.specs.declared.searches.Direction.{Direction}
pub use Rattle.teco_search_outcomes.specs.declared.searches.Direction.TheVariants.{Ahead}
pub use Rattle.teco_search_outcomes.specs.declared.searches.KnownMatch.{KnownMatch}
