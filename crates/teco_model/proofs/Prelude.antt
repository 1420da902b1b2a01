-- The names that the proofs of this crate share.
pub use Rattle.std.proofs.Common.{Bool, Err, FitsSigned, IfOk, IfSome, List, MatchOption, None, Ok, Option, Result}
pub use Rattle.std.proofs.Common.{Some, [], ap, arith, cond, drop, drop-drop, false, get_or, if◌then◌else◌, length}
pub use Rattle.std.proofs.Common.{length-append, length-drop, length-take, nat_le, negsuc, ok_or, option_map, pos, refl}
pub use Rattle.std.proofs.Common.{rules, subst, suc, sym, take, true, w32, zero, ℕ, ℤ, ◌++◌, ◌+ℤ◌, ◌+◌, ◌-◌, ◌<◌, ◌==◌}
pub use Rattle.std.proofs.Common.{◌∙◌, ◌∷◌, ◌≡◌, ◌≤◌}
pub use Rattle.std.proofs.lemmas.Bool.Decides.{nat_tests}
pub use Rattle.std.proofs.lemmas.Int.{SFits-int_wrap, ints}
pub use Rattle.std.proofs.lemmas.Option.{slice_get_within}
unfoldable pub use Rattle.std.specs.Fmt.{digits}
unfoldable pub use Rattle.std.specs.Int.{int_wrap}
pub use Rattle.std.specs.List.{AllByRecursion, prefix_len}
pub use Rattle.std.specs.Option.{option_map_or}
pub use Rattle.std.specs.Prelude.{slice_get, unwrap_or, ⊤}
pub use Rattle.teco_base.specs.Arithmetic.{add, byte_of}
pub use Rattle.teco_base.specs.Bytes.{is_digit}
pub use Rattle.teco_base.specs.Lines.{line_place}
pub use Rattle.teco_base.specs.NumberText.{decimal}
pub use Rattle.teco_base.specs.Text.{text_after_replacement}
pub use Rattle.teco_base.specs.declared.TheConstants.{LIMIT}
pub use Rattle.teco_base.specs.declared.code.Code.{Code}
pub use Rattle.teco_model.specs.Ahead.{Faulty, Whole, reading_of}
unfoldable pub use Rattle.teco_model.specs.Ahead.{first_readings, reading_at, readings}
pub use Rattle.teco_model.specs.Arguments.{Arguments, arguments_of, levels_after_answer, levels_after_taking}
pub use Rattle.teco_model.specs.Arguments.{no_arguments, standing_value}
pub use Rattle.teco_model.specs.Checked.{◌>>=◌}
pub use Rattle.teco_model.specs.Effect.{Effect}
pub use Rattle.teco_model.specs.Element.{Element, blank_end}
unfoldable pub use Rattle.teco_model.specs.Element.{blank_len, element_at, element_from}
pub use Rattle.teco_model.specs.Going.{with_kept}
unfoldable pub use Rattle.teco_model.specs.Letters.{letters}
unfoldable pub use Rattle.teco_model.specs.Match.{here}
pub use Rattle.teco_model.specs.Names.{is_of_files}
pub use Rattle.teco_model.specs.Paging.{Looked, Met, Through, Turned}
pub use Rattle.teco_model.specs.Pattern.{Pattern}
unfoldable pub use Rattle.teco_model.specs.Pattern.{part_at, parts, parts_within}
pub use Rattle.teco_model.specs.Registers.{Registers, empty_pair}
unfoldable pub use Rattle.teco_model.specs.Registers.{empty_pairs}
unfoldable pub use Rattle.teco_model.specs.Run.{run}
pub use Rattle.teco_model.specs.Search.{Finding, Found, Missed}
pub use Rattle.teco_model.specs.State.{Frame, Kept, World}
unfoldable pub use Rattle.teco_model.specs.Step.{reply_of, step}
pub use Rattle.teco_model.specs.declared.arguments.Taken.{Taken}
pub use Rattle.teco_model.specs.declared.flow.Loop.{Loop}
pub use Rattle.teco_model.specs.declared.head.Head.{Head}
pub use Rattle.teco_model.specs.declared.head.TextShape.{TextShape}
pub use Rattle.teco_model.specs.declared.head.TextShape.TheVariants.{EndedBy, Itself, NoText, Two}
pub use Rattle.teco_model.specs.declared.kind.Command.{Command}
pub use Rattle.teco_model.specs.declared.kind.Kind.{Kind}
pub use Rattle.teco_model.specs.declared.kind.Query.{Query}
pub use Rattle.teco_model.specs.declared.kind.Search.{Search}
pub use Rattle.teco_model.specs.declared.pattern.Item.{Item}
pub use Rattle.teco_model.specs.declared.pattern.Span.{Span}
pub use Rattle.teco_model.specs.declared.skip.Skip.{Skip}
pub use Rattle.teco_model.specs.laws.Matching.{HasAt, InTurn, IsFirstFrom, IsLastBefore, IsMatch, IsNth, Matches}
pub use Rattle.teco_model.specs.laws.StepCodes.{IsOfStep}
pub use Rattle.teco_model.specs.laws.Upkeep.{IsUpheld, Upkeep}
pub use Rattle.teco_model.specs.laws.Whole.{AreBytes, IsOfBytes, IsWhole, IsWholePair}
