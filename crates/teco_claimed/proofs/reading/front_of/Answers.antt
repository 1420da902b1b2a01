use Rattle.std.proofs.Common.{◌++◌, ◌∷◌, [], ap, ◌∙◌, append_assoc}
use Rattle.std.specs.Prelude.{codes}
use Rattle.teco_base.specs.Register.{register_name}
use Rattle.teco_base.specs.declared.bytes.TheConstants.{LF}
use Rattle.teco_certificate.specs.Text.{line, version_text, argument_line, needs_text}
use Rattle.teco_claimed.proofs.Fronts.{no_argument, no_checksum}
use Rattle.teco_claimed.specs.Text.{checksum_line}
use Rattle.teco_claims.specs.Text.{text_of}
use Rattle.teco_claimed.proofs.reading.front_of.Goals as goal

pub returns : goal.returns
returns c = λ of is e.
    let claims = text_of of.claims in
    let sums = checksum_line of.checksum ++ claims in
    let behind_needs = (needs_text of.needs ++ LF ∷ []) ++ sums in
    let needs = line (codes "needs " ++ needs_text of.needs) ++ sums in
    let rules = line (codes "rules 3") ++ needs in
    let arguments = argument_line of.argument ++ rules in
    let entries = line (codes "entry " ++ register_name of.entry ∷ []) ++ arguments in
    let version = c.behind_version.ensures of.argument entries
    (e ∙ ap (λ rest. codes "TECO-CERT " ++ rest) (append_assoc (version_text of.argument) (LF ∷ []) entries)) in
    let start = c.behind.ensures.word.1.there (register_name of.entry ∷ LF ∷ arguments) version in
    let entry = c.register_at-entry.ensures.text of.entry (LF ∷ arguments) is.entry start.1 in
    let of_argument = c.behind-2.ensures.word.1.there arguments entry.1 in
    let argument = c.argument_at-argument.ensures of.argument rules is.argument (no_argument needs) of_argument.1 in
    let of_needs = c.behind-3.ensures.word.1.there behind_needs argument.1 in
    let need = c.needs_at-needs.ensures of.needs sums
    (of_needs.1 ∙ append_assoc (needs_text of.needs) (LF ∷ []) sums) in
    let of_sums = c.behind-4.ensures.word.1.there sums need.1 in
    let sum = c.checksum_at-checksum.ensures of.checksum claims is.checksum (no_checksum of.claims) of_sums.1 in
    record {
      entry_is = entry.0;
      argument_is = argument.0;
      needs_are = need.0;
      checksum_is = sum.0;
      spelled = sum.1;
    }
