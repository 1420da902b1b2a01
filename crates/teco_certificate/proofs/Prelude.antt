-- The names that the proofs of this crate share.
pub use Rattle.std.proofs.Common.{Bool, List, None, Option, Some, [], ap, append_assoc, arith, cond, drop, false}
pub use Rattle.std.proofs.Common.{flat_map, length, ltb, refl, subst, suc, sym, take, true, zero, ℕ, ◌++◌, ◌+◌, ◌-◌}
pub use Rattle.std.proofs.Common.{◌<◌, ◌^◌, ◌∙◌, ◌∷◌, ◌≡◌, ◌≤◌}
pub use Rattle.std.proofs.lemmas.Bool.Decides.{Decides-eqb}
pub use Rattle.std.proofs.lemmas.List.{append_cancel_left, append_cancel_right}
pub use Rattle.std.proofs.lemmas.Slice.Eq.{strip_prefix_is}
pub use Rattle.std.specs.Char.{is_ascii_digit}
pub use Rattle.std.specs.Fmt.{decimal}
pub use Rattle.std.specs.List.{AllByRecursion}
pub use Rattle.std.specs.Prelude.{codes, ◌==◌, ◌≢◌}
pub use Rattle.teco_base.specs.Register.{register_name}
pub use Rattle.teco_base.specs.declared.TheConstants.{REGISTERS}
pub use Rattle.teco_base.specs.declared.bytes.TheConstants.{LF}
pub use Rattle.teco_certificate.specs.Text.{argument_line, behind_comma, chosen_text, kept_text, letters_of, line}
pub use Rattle.teco_certificate.specs.Text.{longer_text, longer_texts, loop_line, needs_text, version_text}
pub use Rattle.teco_certificate.specs.WellFormed.{AreOfRegisters, IsChosen, IsLongerText, RegistersRise, TextsRise}
pub use Rattle.teco_model.specs.Macros.{ArgumentRange, Needs}
pub use Rattle.teco_poly.specs.Front.{EndsPolynomial, is_of_polynomial}
pub use Rattle.teco_poly.specs.Polynomial.{Polynomial}
pub use Rattle.teco_poly.specs.Reading.{EndsNumber, IsPoly}
pub use Rattle.teco_poly.specs.Text.{text}
pub use Rattle.teco_verifier.specs.certificate.Fields.{Fields}
pub use Rattle.teco_verifier.specs.table.Choices.{Chosen, LongerText}
