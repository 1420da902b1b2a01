-- The names that the proofs of this crate share.
pub use Rattle.std.proofs.Common.{Bool, List, None, Option, Some, [], ap, append_assoc, arith, cond, false, flat_map}
pub use Rattle.std.proofs.Common.{length, refl, subst, suc, sym, take, true, zero, ℕ, ◌&&◌, ◌++◌, ◌+◌, ◌<◌, ◌^◌, ◌∙◌}
pub use Rattle.std.proofs.Common.{◌∷◌, ◌≡◌, ◌≤◌}
pub use Rattle.std.proofs.lemmas.Bool.{eqb-true}
pub use Rattle.std.proofs.lemmas.Bool.Decides.{Decides-eqb}
pub use Rattle.std.proofs.lemmas.Fmt.{decimal_is_IsNumeral_wide}
pub use Rattle.std.proofs.lemmas.Slice.Eq.{strip_prefix_is}
pub use Rattle.std.specs.Char.{is_ascii_digit}
pub use Rattle.std.specs.Fmt.{decimal}
pub use Rattle.std.specs.Int.{IsGcd}
pub use Rattle.std.specs.List.{AllByRecursion, list_all}
pub use Rattle.std.specs.Prelude.{IfSome, codes, ◌==◌, ◌≢◌}
pub use Rattle.teco_base.specs.declared.bytes.TheConstants.{LF}
pub use Rattle.teco_claims.specs.Front.{EndsClaims, EndsPart, EndsTerm, begins}
pub use Rattle.teco_claims.specs.Spelled.{AreTerms, IsClaim, IsCut, IsTerm}
pub use Rattle.teco_claims.specs.Text.{body_text, claim_line, cut_text, cut_words, divisor_text, factor_text}
pub use Rattle.teco_claims.specs.Text.{first_sign, fraction_text, has_unit, is_one, line, name_text, next_text}
pub use Rattle.teco_claims.specs.Text.{signed_text, star_text, terms_text, types_text, unit_text}
pub use Rattle.teco_claims.specs.Values.{AtCut, Claimed}
pub use Rattle.teco_claims.specs.declared.term.ClaimMeasure.{ClaimMeasure}
pub use Rattle.teco_claims.specs.declared.term.ClaimMeasure.TheVariants.{Length, Number, One, PushedLength}
pub use Rattle.teco_claims.specs.declared.term.ClaimMeasure.TheVariants.{PushedNumber, Turns}
pub use Rattle.teco_claims.specs.declared.term.ClaimSingle.TheVariants.{Held, LastLength, LineEnd, LineStart, Pointer}
pub use Rattle.teco_claims.specs.declared.term.ClaimSingle.TheVariants.{Size, Steps, Typed, EntryHeld}
pub use Rattle.teco_claims.specs.declared.term.ClaimTerm.{ClaimTerm}
pub use Rattle.teco_claims.specs.declared.term.Fraction.{Fraction}
pub use Rattle.teco_poly.specs.Front.{LooksFor, is_of_polynomial}
pub use Rattle.teco_poly.specs.Polynomial.{Polynomial}
pub use Rattle.teco_poly.specs.Reading.{EndsNumber, IsPoly}
pub use Rattle.teco_poly.specs.Text.{power_text, text}
