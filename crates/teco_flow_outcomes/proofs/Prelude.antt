-- The names that the proofs of this crate share.
pub use Rattle.std.proofs.Common.{Bool, List, None, Ok, Option, Result, Some, [], ap, arith, drop, false, if◌then◌else◌}
pub use Rattle.std.proofs.Common.{inl, inr, length, negsuc, option_and_then, option_map, pos, refl, rules}
pub use Rattle.std.proofs.Common.{slice_index_or, subst, suc, sym, take, to_z, true, unwrap_or, w32, zero, ℕ, ℤ, ◌++◌}
pub use Rattle.std.proofs.Common.{◌+◌, ◌==◌, ◌∙◌, ◌∷◌, ◌≡◌, ◌≤ℤ◌, ◌≤◌, ◌⊎◌}
pub use Rattle.std.proofs.lemmas.Grind.{common_steps}
pub use Rattle.std.proofs.lemmas.Int.{ints, to_z-of_z}
pub use Rattle.std.proofs.lemmas.Result.{IfOk-weaker}
pub use Rattle.std.specs.List.{Any}
pub use Rattle.std.specs.Option.{ok_or}
pub use Rattle.teco_base.specs.declared.code.Code.{Code}
pub use Rattle.teco_flow_outcomes.specs.Flow.{Counts, IsAgain, IsCounted, IsDropped, IsEnded, IsInnermost, IsLater}
pub use Rattle.teco_flow_outcomes.specs.Flow.{IsLeft, IsUncounted, turned}
pub use Rattle.teco_flow_outcomes.specs.Ranges.{AreBehindIn, IsIn, IsInOne, Says}
pub use Rattle.teco_flow_outcomes.specs.declared.arguments.TheConstants.{STEPS}
pub use Rattle.teco_flow_outcomes.specs.declared.ranges.NumberRange.{NumberRange}
pub use Rattle.teco_flow_outcomes.specs.declared.ranges.NumberRange.TheVariants.{From, UpTo}
pub use Rattle.teco_flow_outcomes.specs.declared.ranges.Ranges.{Ranges}
pub use Rattle.teco_linear.specs.Form.{Valuation, value}
pub use Rattle.teco_linear.specs.declared.term.Term.{Term}
pub use Rattle.teco_model.specs.Arguments.{Arguments, level_with, levels_after_taking}
pub use Rattle.teco_model.specs.Checked.{◌>>=◌}
pub use Rattle.teco_model.specs.Condition.{holds}
pub use Rattle.teco_model.specs.Flow.{leaves}
pub use Rattle.teco_model.specs.Step.{levels_after}
pub use Rattle.teco_model.specs.declared.arguments.Operator.{Operator}
pub use Rattle.teco_model.specs.declared.flow.Loop.{Loop}
pub use Rattle.teco_model.specs.declared.kind.Test.{Test}
pub use Rattle.teco_rows.proofs.Commanding.{read_at}
pub use Rattle.teco_rows.proofs.Describing.{described}
pub use Rattle.teco_rows.proofs.Leading.{left_alone}
pub use Rattle.teco_rows.proofs.Ways.{leaves_singles, single_alone}
pub use Rattle.teco_rows.specs.Cases.{value_if}
pub use Rattle.teco_rows.specs.Commands.{EndsWith, IsAtLevel, IsCommanded}
pub use Rattle.teco_rows.specs.Foretold.{Rearranges, Succeeds}
pub use Rattle.teco_rows.specs.Levels.{IsOutermost, with_arguments}
pub use Rattle.teco_rows.specs.Rows.{AreMet, Before, Holds, changed}
pub use Rattle.teco_rows.specs.States.{Describes, IsLed, IsShape, IsTrueOf, Point, WaitsFor, each, from_end}
pub use Rattle.teco_rows.specs.States.{measures_of}
pub use Rattle.teco_rows.specs.declared.case.Case.{Case}
pub use Rattle.teco_rows.specs.declared.measure.Family.TheVariants.{First, Length, Number, PushedLength, PushedNumber}
pub use Rattle.teco_rows.specs.declared.measure.Family.TheVariants.{Turns, Value}
pub use Rattle.teco_rows.specs.declared.measure.Measure.{Measure}
pub use Rattle.teco_rows.specs.declared.measure.Measure.TheVariants.{Each, One}
pub use Rattle.teco_rows.specs.declared.measure.Single.TheVariants.{CodeBefore, CodeHere, Held, LastLength, LineEnd}
pub use Rattle.teco_rows.specs.declared.measure.Single.TheVariants.{LineStart, Pointer, Size, Steps, Typed, EntryHeld}
pub use Rattle.teco_rows.specs.declared.outcomes.Outcomes.{Outcomes}
pub use Rattle.teco_rows.specs.declared.row.Clause.{Clause}
pub use Rattle.teco_rows.specs.declared.row.Places.{Places}
pub use Rattle.teco_rows.specs.declared.row.RowStep.{RowStep}
