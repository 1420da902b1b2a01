-- The names that the proofs of this crate share.
pub use Rattle.std.proofs.Common.{Bool, Err, FitsSigned, List, None, Ok, Option, Result, Some, [], ap, arith, false}
pub use Rattle.std.proofs.Common.{get_or, if◌then◌else◌, inl, inr, length, neg_ℤ, negsuc, pos, refl, slice_get}
pub use Rattle.std.proofs.Common.{slice_index_or, subst, suc, sym, true, unwrap_or, w32, zero, ℕ, ℤ, ◌++◌, ◌+ℤ◌, ◌+◌}
pub use Rattle.std.proofs.Common.{◌-ℤ◌, ◌<◌, ◌∙◌, ◌∷◌, ◌≡◌, ◌≤ℤ◌, ◌≤◌, ◌⊎◌}
pub use Rattle.std.proofs.lemmas.Bool.Decides.{nat_tests}
pub use Rattle.std.proofs.lemmas.Grind.{common_steps}
pub use Rattle.std.proofs.lemmas.Int.{ints}
pub use Rattle.std.proofs.lemmas.Result.{IfOk-weaker}
pub use Rattle.std.specs.List.{All}
pub use Rattle.teco_base.specs.Bytes.{is_line_end}
pub use Rattle.teco_base.specs.Lines.{line_place}
pub use Rattle.teco_base.specs.declared.code.Code.{Code}
pub use Rattle.teco_flow_outcomes.specs.Law.{Goes, Law, StepsTo, point_of}
pub use Rattle.teco_linear.specs.Form.{Valuation, value}
pub use Rattle.teco_linear.specs.declared.term.Term.{Term}
pub use Rattle.teco_model.specs.Arguments.{level_with, levels_after_answer, levels_after_taking, value_beside}
pub use Rattle.teco_model.specs.Character.{code_at}
pub use Rattle.teco_model.specs.Checked.{◌>>=◌}
pub use Rattle.teco_model.specs.Effect.{Effect}
pub use Rattle.teco_model.specs.Element.{Element}
pub use Rattle.teco_model.specs.Going.{after}
pub use Rattle.teco_model.specs.Registers.{pair_of}
pub use Rattle.teco_model.specs.State.{Kept}
pub use Rattle.teco_model.specs.Step.{after_query_with, after_stack, after_value, outcome_at}
unfoldable pub use Rattle.teco_model.specs.Step.{reply_of, step}
pub use Rattle.teco_model.specs.declared.arguments.Level.{Level}
pub use Rattle.teco_model.specs.declared.arguments.Operator.{Operator}
pub use Rattle.teco_model.specs.laws.Whole.{AreBytes, IsWhole}
pub use Rattle.teco_query_outcomes.specs.Queries.{Asks, Stands}
pub use Rattle.teco_rows.proofs.Commanding.{read_at}
pub use Rattle.teco_rows.proofs.Giving.{describes_one}
pub use Rattle.teco_rows.proofs.Leading.{answers, leads}
pub use Rattle.teco_rows.proofs.Lines.{IsEnd, above_or, clash, ends, line_begin, line_end}
pub use Rattle.teco_rows.proofs.Pending.{value_there}
pub use Rattle.teco_rows.proofs.Ways.{IsWay, by}
pub use Rattle.teco_rows.specs.Cases.{value_if}
pub use Rattle.teco_rows.specs.Commands.{AreCommanded, IsAtLevel, IsTaken, Leads, commanded}
pub use Rattle.teco_rows.specs.Foretold.{Describe, Foretells, Gives, GivesAny, IsOne, Succeeds, with_level}
pub use Rattle.teco_rows.specs.Rows.{Before, changed}
pub use Rattle.teco_rows.specs.States.{Describes, IsShape, IsTrueOf, Point, behind, code_here, each, single}
pub use Rattle.teco_rows.specs.declared.case.Case.{Case}
pub use Rattle.teco_rows.specs.declared.commands.TakenForms.{TakenForms}
pub use Rattle.teco_rows.specs.declared.measure.Family.TheVariants.{Value}
pub use Rattle.teco_rows.specs.declared.measure.Measure.TheVariants.{One}
pub use Rattle.teco_rows.specs.declared.measure.Single.{Single}
pub use Rattle.teco_rows.specs.declared.measure.Single.TheVariants.{CodeBefore, CodeHere, Held, LastLength, LineEnd}
pub use Rattle.teco_rows.specs.declared.measure.Single.TheVariants.{LineStart, Pointer, Size, Steps, Typed, EntryHeld}
pub use Rattle.teco_rows.specs.declared.outcomes.Guarded.{Guarded}
pub use Rattle.teco_rows.specs.declared.outcomes.Outcomes.{Outcomes}
pub use Rattle.teco_rows.specs.declared.row.Clause.{Clause}
pub use Rattle.teco_rows.specs.declared.row.Places.{Places}
