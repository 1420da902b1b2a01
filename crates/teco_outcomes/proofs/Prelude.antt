-- The names that the proofs of this crate share.
pub use Rattle.std.proofs.Common.{Err, Ok, Result, ap, arith}
pub use Rattle.std.proofs.Common.{inl, inr, refl}
pub use Rattle.std.proofs.Common.{subst, sym, ℕ}
pub use Rattle.std.proofs.Common.{◌∙◌, ◌≡◌}
pub use Rattle.std.proofs.lemmas.Grind.{common_steps}
pub use Rattle.std.proofs.lemmas.Result.{IfOk-weaker}
pub use Rattle.teco_base.specs.declared.code.Code.{Code}
pub use Rattle.teco_flow_outcomes.specs.Law.{Goes, Law, StepsTo, point_of}
pub use Rattle.teco_model.specs.Arguments.{levels_after_answer, levels_after_taking}
pub use Rattle.teco_model.specs.Checked.{◌>>=◌}
pub use Rattle.teco_model.specs.Effect.{Effect}
pub use Rattle.teco_model.specs.Element.{Element, seen}
pub use Rattle.teco_model.specs.Step.{after_command, after_stack, after_value, outcome_at}
unfoldable pub use Rattle.teco_model.specs.Step.{reply_of, step}
pub use Rattle.teco_model.specs.Storage.{storage}
pub use Rattle.teco_query_outcomes.specs.Queries.{Asks}
pub use Rattle.teco_rows.specs.Commands.{IsTaken, Performs, commanded}
pub use Rattle.teco_rows.specs.Foretold.{Describe, Foretells, Succeeds}
pub use Rattle.teco_rows.specs.States.{Point, behind}
pub use Rattle.teco_rows.specs.declared.case.Case.{Case}
pub use Rattle.teco_rows.specs.declared.commands.TakenForms.{TakenForms}
pub use Rattle.teco_rows.specs.declared.outcomes.Outcomes.{Outcomes}
