use Rattle.teco_certificate.proofs.Prelude.{sym, ◌∙◌}
use Rattle.teco_certificate.proofs.Unique.{one_certificate}
use Rattle.teco_certificate.proofs.laws.one_spelling.Goals as goal

pub returns : goal.returns
returns c = λ text p q is other.
    one_certificate c.one_text.ensures p q is.well_formed.parts other.well_formed.parts (sym is.spelled ∙ other.spelled)
