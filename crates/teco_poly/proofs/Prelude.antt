-- The names that the proofs of this crate share.
pub use Rattle.std.proofs.Common.{Bool, List, None, Option, Some, [], ap, append_assoc, arith, drop, false, get_or}
pub use Rattle.std.proofs.Common.{length, lit<, ltb, max, refl, subst, suc, sym, take, true, zero, ℕ, ◌*◌, ◌++◌, ◌+◌}
pub use Rattle.std.proofs.Common.{◌-◌, ◌<◌, ◌^◌, ◌∙◌, ◌∷◌, ◌≡◌, ◌≤◌}
pub use Rattle.std.proofs.Math.Nat.{pow-suc, pow-zero}
pub use Rattle.std.proofs.Math.Seq.{drop-append_seam}
pub use Rattle.std.proofs.lemmas.Bool.{eq-eqb, eqb-false, lt-ltb, ltb-false, ltb-true, ne_eqb}
pub use Rattle.std.proofs.lemmas.Bool.Decides.{Decides-eqb}
pub use Rattle.std.proofs.lemmas.Fmt.{decimal_digit, decimal_injective, decimal_nonempty}
pub use Rattle.std.proofs.lemmas.List.{drop_more, ext_get_or, get_or_past}
pub use Rattle.std.specs.Char.{is_ascii_digit}
pub use Rattle.std.specs.Cmp.Lexicographic.{pointwise}
pub use Rattle.std.specs.Fmt.{decimal}
pub use Rattle.std.specs.Prelude.{codes, nat_eq, ◌&&◌, ◌==◌}
pub use Rattle.std.specs.Str.{all_ascii_digits}
pub use Rattle.std.specs.String.{string_bytes}
pub use Rattle.teco_poly.specs.Polynomial.{Polynomial, at, differences, first, fitted, greater, in_64_bits, is_at_most}
pub use Rattle.teco_poly.specs.Polynomial.{one_less, product, raised, scaled, sub, sum, value}
pub use Rattle.teco_poly.specs.Reading.{EndsNumber, EndsTerm, IsCoefficientAt, IsLedTermAt, IsNextAt, IsNumberAt}
pub use Rattle.teco_poly.specs.Reading.{IsPoly, IsTermAt}
pub use Rattle.teco_poly.specs.Text.{coefficient_text, joined, lead_behind, power_text, terms_from}
