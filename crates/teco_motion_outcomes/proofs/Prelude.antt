-- The names that the proofs of this crate share.
pub use Rattle.std.proofs.Common.{Err, List, None, Ok, Option, Some, [], ap, arith, drop, false}
pub use Rattle.std.proofs.Common.{if◌then◌else◌, inl, inr, length, length-append, length-take, nat_le, negsuc, pos}
pub use Rattle.std.proofs.Common.{refl, slice_get, slice_index_or, subst, suc, sym, take, true, zero, ℕ, ℤ}
pub use Rattle.std.proofs.Common.{◌++◌, ◌+ℤ◌, ◌+◌, ◌-ℤ◌, ◌-◌, ◌<◌, ◌∙◌, ◌∷◌, ◌≡◌, ◌≤ℤ◌, ◌≤◌, ◌⊎◌}
pub use Rattle.std.proofs.lemmas.Bool.Decides.{nat_tests}
pub use Rattle.std.proofs.lemmas.Grind.{common_steps}
pub use Rattle.std.proofs.lemmas.Int.{ints}
pub use Rattle.std.proofs.lemmas.List.{append_assoc}
pub use Rattle.std.proofs.lemmas.List.Elements.{All-head}
pub use Rattle.std.proofs.lemmas.Result.{IfOk-weaker}
pub use Rattle.std.specs.List.{All}
pub use Rattle.teco_base.specs.Arithmetic.{byte_of}
pub use Rattle.teco_base.specs.Lines.{line_place}
pub use Rattle.teco_base.specs.Text.{text_after_deletion, text_after_insertion}
pub use Rattle.teco_base.specs.declared.TheConstants.{LIMIT}
pub use Rattle.teco_motion_outcomes.specs.Changes.{IsDone}
pub use Rattle.teco_motion_outcomes.specs.Insertions.{end_code}
pub use Rattle.teco_motion_outcomes.specs.Motions.{IsPlace}
pub use Rattle.teco_linear.specs.Form.{Valuation, value}
pub use Rattle.teco_linear.specs.declared.term.Term.{Term}
pub use Rattle.teco_model.specs.Effect.{no_answer, with_answer}
pub use Rattle.teco_model.specs.Element.{Element}
pub use Rattle.teco_model.specs.Motion.{motion}
pub use Rattle.teco_model.specs.Places.{place_in}
pub use Rattle.teco_model.specs.State.{Kept}
pub use Rattle.teco_model.specs.Storage.{retrieval, storage, text_in}
pub use Rattle.teco_model.specs.declared.kind.Storage.TheVariants.{Get}
pub use Rattle.teco_model.specs.laws.Whole.{IsWhole}
pub use Rattle.teco_rows.proofs.Characters.{Sort, before_next, ends_one, is_high, is_low, sort_at, with_codes}
pub use Rattle.teco_rows.proofs.Commanding.{read_at}
pub use Rattle.teco_rows.proofs.Leading.{answers, is_of_singles, leads, leads_singles, leaves, left_alone}
pub use Rattle.teco_rows.proofs.Leading.{performed}
pub use Rattle.teco_rows.proofs.Lines.{IsBegin, IsEnd, above_or, begin_before, begin_most, clash, end_before}
pub use Rattle.teco_rows.proofs.Lines.{end_inside, end_least, ends, line_begin, line_end, one_begin, one_end}
pub use Rattle.teco_rows.proofs.Texts.{begin_kept, end_behind, length_after}
pub use Rattle.teco_rows.proofs.Ways.{IsWay, by}
pub use Rattle.teco_rows.specs.Cases.{value_if}
pub use Rattle.teco_rows.specs.Commands.{AreCommanded, IsAtLevel, IsCommanded, Leads, Performs, commanded}
pub use Rattle.teco_rows.specs.Foretold.{Begins, Describe}
pub use Rattle.teco_rows.specs.Rows.{AreMet, Before, changed}
pub use Rattle.teco_rows.specs.States.{IsTrueOf, Point, code_before, code_here, length_of, number_of, single}
pub use Rattle.teco_rows.specs.declared.case.Case.{Case}
pub use Rattle.teco_rows.specs.declared.commands.TakenForms.{TakenForms}
pub use Rattle.teco_rows.specs.declared.measure.Family.TheVariants.{First, Length, Number, PushedLength, PushedNumber}
pub use Rattle.teco_rows.specs.declared.measure.Family.TheVariants.{Turns, Value}
pub use Rattle.teco_rows.specs.declared.measure.Measure.TheVariants.{Each, One}
pub use Rattle.teco_rows.specs.declared.measure.Single.{Single}
pub use Rattle.teco_rows.specs.declared.measure.Single.TheVariants.{CodeBefore, CodeHere, Held, LastLength, LineEnd}
pub use Rattle.teco_rows.specs.declared.measure.Single.TheVariants.{LineStart, Pointer, Size, Steps, Typed, EntryHeld}
pub use Rattle.teco_rows.specs.declared.outcomes.Outcomes.{Outcomes}
pub use Rattle.teco_rows.specs.declared.row.Clause.{Clause}
pub use Rattle.teco_rows.specs.declared.row.Places.{Places}
