-- The names that the proofs of this crate share.
pub use Rattle.std.proofs.Common.{Bool, Err, FitsSigned, List, None, Ok, Option, Result, Some, [], add-one, ap, arith}
pub use Rattle.std.proofs.Common.{drop, false, get_or, if◌then◌else◌, length, length-take, map, min, negsuc, of_z, pos}
pub use Rattle.std.proofs.Common.{refl, rules, set, subst, suc, sym, take, to_z, true, w64, zero, ℕ, ℤ, ◌&&◌, ◌*ℤ◌}
pub use Rattle.std.proofs.Common.{◌++◌, ◌+ℤ◌, ◌+◌, ◌-ℤ◌, ◌-◌, ◌<ℤ◌, ◌<◌, ◌∙◌, ◌∷◌, ◌≡◌, ◌≤ℤ◌, ◌≤◌}
pub use Rattle.std.proofs.lemmas.Int.{clamps, ints, to_z-of_z}
pub use Rattle.teco_base.specs.declared.TheConstants.{LIMIT}
pub use Rattle.teco_facts.specs.Each.{each_met, replaced_where}
pub use Rattle.teco_facts.specs.Least.{unknown}
pub use Rattle.teco_facts.specs.Numbers.{AreSmall, IsNumber, IsPlace, IsRange, IsSmallFall}
pub use Rattle.teco_verifier.specs.declared.refusal.RefusalReason.{RefusalReason}
pub use Rattle.teco_verifier.specs.declared.values.Distances.{Distances}
pub use Rattle.teco_verifier.specs.declared.values.Interval.{Interval}
pub use Rattle.teco_verifier.specs.declared.values.Value.{Value}
pub use Rattle.teco_verifier.specs.facts.Attempt.{◌>>=◌}
pub use Rattle.teco_verifier.specs.facts.Covers.{covers_level, each_covers}
pub use Rattle.teco_verifier.specs.facts.Facts.{Facts, Position, Pushed, join_of}
pub use Rattle.teco_verifier.specs.facts.Joins.{hulls, joined_lengths, joined_pushes}
pub use Rattle.teco_verifier.specs.facts.Shifts.{fall_after}
pub use Rattle.teco_verifier.specs.facts.Values.{interval_of, is_linear, least_share, most_share}
