-- The names that the proofs of this crate share.
pub use Rattle.std.proofs.Common.{Bool, List, None, Option, Some, [], ap, arith, drop, false, get_or, length}
pub use Rattle.std.proofs.Common.{ltb, neg_ℤ, negsuc, pos, refl, sym, true, vec_len, ℕ, ℤ, ◌*ℤ◌, ◌*◌, ◌++◌, ◌+ℤ◌}
pub use Rattle.std.proofs.Common.{◌+◌, ◌-ℤ◌, ◌-◌, ◌<◌, ◌^◌, ◌∙◌, ◌∷◌, ◌≡◌, ◌≤ℤ◌, ◌≤◌}
pub use Rattle.std.proofs.Math.IntN.{*ℤ_comm, zero-*ℤ}
pub use Rattle.std.proofs.Math.Nat.{pow-zero}
pub use Rattle.std.proofs.lemmas.Bool.{ltb-false, ltb-true}
pub use Rattle.std.proofs.lemmas.Int.{ints, to_z-of_z}
pub use Rattle.std.proofs.lemmas.List.{drop_all, drop_more, get_or_past}
pub use Rattle.std.specs.List.{All}
pub use Rattle.teco_linear.specs.Difference.{number_of}
pub use Rattle.teco_linear.specs.Form.{Valuation, scale_value, symbol_value, term_value, value}
pub use Rattle.teco_linear.specs.Implied.{Holds}
pub use Rattle.teco_linear.specs.declared.form.TheConstants.{MAX_TERMS}
pub use Rattle.teco_linear.specs.declared.term.Scale.{Scale}
pub use Rattle.teco_linear.specs.declared.term.Term.{Term}
