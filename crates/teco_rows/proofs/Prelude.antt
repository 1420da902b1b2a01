-- The names that the proofs of this crate share.
pub use Rattle.std.proofs.Common.{Bool, List, None, Ok, Option, Result, Some, [], ap, arith, drop, false, get_or}
pub use Rattle.std.proofs.Common.{if◌then◌else◌, inl, inr, is_none, is_some, length, length-append, nat_lt, negsuc}
pub use Rattle.std.proofs.Common.{of_z, option_and_then, pos, refl, rules, slice_get, slice_index_or, subst, suc, sym}
pub use Rattle.std.proofs.Common.{take, to_z, true, unwrap_or, zero, ℕ, ℤ, ◌&&◌, ◌*ℤ◌, ◌*◌, ◌++◌, ◌+ℤ◌, ◌+◌, ◌-◌, ◌<◌}
pub use Rattle.std.proofs.Common.{◌==◌, ◌^◌, ◌∙◌, ◌∷◌, ◌≡◌, ◌≤ℤ◌, ◌≤◌, ◌⊎◌}
pub use Rattle.std.proofs.Math.Seq.{get_or-append_seam}
pub use Rattle.std.proofs.lemmas.Bool.Decides.{nat_tests}
pub use Rattle.std.proofs.lemmas.Grind.{common_steps}
pub use Rattle.std.proofs.lemmas.Int.{ints, to_z-of_z}
pub use Rattle.std.proofs.lemmas.List.{get_or_append_left, take_all, take_more}
pub use Rattle.std.proofs.lemmas.Result.{IfOk-weaker}
pub use Rattle.std.specs.Int.{cast_signed, cast_unsigned, w64}
pub use Rattle.std.specs.List.{All}
pub use Rattle.teco_base.specs.Bytes.{is_line_end}
pub use Rattle.teco_base.specs.declared.TheConstants.{REGISTERS}
pub use Rattle.teco_base.specs.declared.code.Code.{Code}
pub use Rattle.teco_linear.specs.Form.{Valuation, value}
pub use Rattle.teco_linear.specs.declared.term.Term.{Term}
pub use Rattle.teco_model.specs.Arguments.{Arguments}
pub use Rattle.teco_model.specs.Checked.{◌>>=◌}
pub use Rattle.teco_model.specs.State.{Kept}
pub use Rattle.teco_model.specs.declared.arguments.Level.{Level}
pub use Rattle.teco_model.specs.declared.arguments.Operator.{Operator}
pub use Rattle.teco_rows.specs.Cases.{Adds, IsAbout, IsWhole, measures_by, read_by, read_with, value_if}
pub use Rattle.teco_rows.specs.Commands.{AreCommanded, IsAtLevel, IsCommanded, Leads, commanded, row_of}
pub use Rattle.teco_rows.specs.Foretold.{Describe, IsBelowZero, IsDivided, IsFromZero, Quotients, Succeeds, is_over}
pub use Rattle.teco_rows.specs.Foretold.{with_level}
pub use Rattle.teco_rows.specs.Measures.{family_code, place}
pub use Rattle.teco_rows.specs.Rows.{AreMet, Before, Holds, changed, index_at, is_at, measure_at, sum_of, total, weight}
pub use Rattle.teco_rows.specs.States.{Describes, IsLed, IsShape, IsTrueOf, Point, behind, each, from_end, length_of}
pub use Rattle.teco_rows.specs.States.{levels, measures_of, number_of, operators_of, single}
pub use Rattle.teco_rows.specs.declared.applied.Draft.{Draft}
pub use Rattle.teco_rows.specs.declared.case.Case.{Case}
pub use Rattle.teco_rows.specs.declared.levels.TheConstants.{VALUE}
pub use Rattle.teco_rows.specs.declared.measure.Family.{Family}
pub use Rattle.teco_rows.specs.declared.measure.Family.TheVariants.{First, Length, Number, PushedLength, PushedNumber}
pub use Rattle.teco_rows.specs.declared.measure.Family.TheVariants.{Turns, Value}
pub use Rattle.teco_rows.specs.declared.measure.Measure.{Measure}
pub use Rattle.teco_rows.specs.declared.measure.Measure.TheVariants.{Each, One}
pub use Rattle.teco_rows.specs.declared.measure.Single.{Single}
pub use Rattle.teco_rows.specs.declared.measure.Single.TheVariants.{CodeBefore, CodeHere, Held, LastLength, LineEnd}
pub use Rattle.teco_rows.specs.declared.measure.Single.TheVariants.{LineStart, Pointer, Size, Steps, Typed, EntryHeld}
pub use Rattle.teco_rows.specs.declared.outcomes.Outcomes.{Outcomes}
pub use Rattle.teco_rows.specs.declared.row.Clause.{Clause}
pub use Rattle.teco_rows.specs.declared.row.Clause.TheVariants.{Drops, Sets, Wants}
pub use Rattle.teco_rows.specs.declared.row.Mark.{Mark}
pub use Rattle.teco_rows.specs.declared.row.Of.{Of}
pub use Rattle.teco_rows.specs.declared.row.Of.TheVariants.{Given, Unknown, Was}
pub use Rattle.teco_rows.specs.declared.row.Places.{Places}
pub use Rattle.teco_rows.specs.declared.row.RowStep.{RowStep}
