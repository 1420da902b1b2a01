-- The names that the proofs of this crate share.
pub use Rattle.std.proofs.Common.{Bool, Err, List, None, Ok, Option, Result, Some, [], add-one, ap, append_assoc, arith}
pub use Rattle.std.proofs.Common.{drop, false, get_or, if◌then◌else◌, length, option_map, refl, replicate, rules, set}
pub use Rattle.std.proofs.Common.{slice_get, subst, suc, sym, take, true, unwrap_or, zero, ℕ, ◌++◌, ◌+◌, ◌-◌, ◌<◌, ◌==◌}
pub use Rattle.std.proofs.Common.{◌||◌, ◌∙◌, ◌∷◌, ◌≡◌, ◌≤◌}
pub use Rattle.std.proofs.lemmas.Bool.Decides.{nat_tests}
pub use Rattle.std.proofs.lemmas.List.{drop_all}
pub use Rattle.std.specs.List.{AllByRecursion, list_any}
pub use Rattle.std.specs.Option.{option_map_or}
pub use Rattle.teco_base.specs.declared.TheConstants.{REGISTERS}
pub use Rattle.teco_check.specs.Derived.{AreLarge, Slots, arrivals_of, arrived_all, arrived_at}
pub use Rattle.teco_check.specs.Here.{no_node}
unfoldable pub use Rattle.teco_check.specs.Here.{node_at}
pub use Rattle.teco_check.specs.Kept.{RowIsKept}
pub use Rattle.teco_check.specs.Rounds.{AreRounds}
pub use Rattle.teco_check.specs.declared.derivation.NotDerived.{NotDerived}
pub use Rattle.teco_model.specs.Element.{Element}
pub use Rattle.teco_model.specs.Macros.{ArgumentRange}
pub use Rattle.teco_model.specs.declared.kind.Flow.{Flow}
pub use Rattle.teco_model.specs.declared.kind.Kind.{Kind}
pub use Rattle.teco_model.specs.declared.kind.Unit.{Unit as Counted}
pub use Rattle.teco_poly.specs.Polynomial.{Polynomial}
pub use Rattle.teco_verifier.specs.declared.refusal.RefusalReason.{RefusalReason}
pub use Rattle.teco_verifier.specs.declared.values.Value.{Value}
pub use Rattle.teco_verifier.specs.expansion.Ends.{first_end}
pub use Rattle.teco_verifier.specs.expansion.Node.{Node}
pub use Rattle.teco_verifier.specs.facts.Argument.{facts_given}
pub use Rattle.teco_verifier.specs.facts.Attempt.{◌>>=◌}
pub use Rattle.teco_verifier.specs.facts.Bodies.{Changes, Choice}
pub use Rattle.teco_verifier.specs.facts.Deletions.{deletion_of}
pub use Rattle.teco_verifier.specs.facts.Facts.{Facts}
pub use Rattle.teco_verifier.specs.facts.Flows.{Edges}
pub use Rattle.teco_verifier.specs.facts.Shifts.{Foreseen, Shift, ending, silent_behind}
pub use Rattle.teco_verifier.specs.table.Behind.{along, begins_turn}
pub use Rattle.teco_verifier.specs.table.Choices.{Chosen}
pub use Rattle.teco_verifier.specs.table.Closed.{arrive, begins_by_kind, begins_iteration, check_from}
unfoldable pub use Rattle.teco_verifier.specs.table.Closed.{check}
pub use Rattle.teco_verifier.specs.table.Deriving.{Arrival, arrivals_behind, arriving, chosen_for, derived_at, met}
pub use Rattle.teco_verifier.specs.table.Deriving.{met_with}
pub use Rattle.teco_verifier.specs.table.Loops.{begins}
unfoldable pub use Rattle.teco_verifier.specs.table.Loops.{loops_of}
pub use Rattle.teco_verifier.specs.table.Printed.{count_from, needs_from, size_from, turns_round}
unfoldable pub use Rattle.teco_verifier.specs.table.Printed.{commands, size}
pub use Rattle.teco_verifier.specs.table.Table.{Row, Table, facts_at}
pub use Rattle.teco_verifier.specs.table.Written.{changes_in, ends_saved}
unfoldable pub use Rattle.teco_verifier.specs.table.Written.{written_in}
