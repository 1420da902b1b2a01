-- The names that the proofs of this crate share.
pub use Rattle.std.proofs.Common.{Err, IsOk, List, None, Ok, Option, Result, Some, [], ap, arith, false, inl, inr}
pub use Rattle.std.proofs.Common.{length, refl, subst, suc, sym, true, zero, ℕ, ◌<◌, ◌∙◌, ◌∷◌, ◌≡◌, ◌⊎◌}
pub use Rattle.std.specs.List.{AllByRecursion, list_any}
pub use Rattle.std.specs.Prelude.{IfOk, IfSome}
pub use Rattle.teco_base.specs.declared.TheConstants.{REGISTERS}
pub use Rattle.teco_certificate.specs.Reads.{IsTextOf}
pub use Rattle.teco_check.specs.Derived.{Derives, DerivesUpTo}
pub use Rattle.teco_check.specs.Here.{node_at}
pub use Rattle.teco_check.specs.Kept.{AreKept, RowIsKept}
pub use Rattle.teco_check.specs.declared.derivation.NotDerived.{NotDerived}
pub use Rattle.teco_law_tables.specs.straight_text.Accepted.{BeginsNoIteration, IsAccepted}
pub use Rattle.teco_library.specs.Library.{LibraryFile, argument_of}
pub use Rattle.teco_model.specs.Macros.{ArgumentRange, Library}
pub use Rattle.teco_poly.specs.Polynomial.{Polynomial}
pub use Rattle.teco_verifier.specs.certificate.Fields.{Fields, Finding}
unfoldable pub use Rattle.teco_verifier.specs.expansion.Expansion.{expansion}
pub use Rattle.teco_verifier.specs.expansion.Node.{Node}
pub use Rattle.teco_verifier.specs.facts.Facts.{Facts}
pub use Rattle.teco_verifier.specs.table.Choices.{Chosen}
pub use Rattle.teco_verifier.specs.table.Closed.{check}
pub use Rattle.teco_verifier.specs.table.Deriving.{derive}
pub use Rattle.teco_verifier.specs.table.Loops.{begins}
pub use Rattle.teco_verifier.specs.table.Printed.{commands, size}
pub use Rattle.teco_verifier.specs.table.Table.{Table}
pub use Rattle.teco_verify.specs.Again.{AreMadeBy}
pub use Rattle.teco_verify.specs.Certified.{IsCertified}
pub use Rattle.teco_verify.specs.Certifying.{AreFieldsOf, Certifies}
pub use Rattle.teco_verify.specs.Refusing.{IsJudged, IsPlain, fields_of, refusal_of_unfit, unfit_by, unfit_of}
pub use Rattle.teco_verify.specs.Straight.{IsFound, plain_fields}
pub use Rattle.teco_verify.specs.declared.certifying.CertificateFlaw.{CertificateFlaw}
pub use Rattle.teco_verify.specs.declared.refusal.Refusal.{Refusal}
