use Rattle.teco_claims.proofs.Prelude.{◌++◌, arith, ◌∙◌, append_assoc, factor_text, has_unit, unit_text}
use Rattle.teco_claims.proofs.Terms.{ends_factor, same_term}
use Rattle.teco_claims.proofs.reading.term_at.Goals as goal

pub returns-clause-text : goal.returns-clause-text
returns-clause-text c = λ t rest is ends sign e.
    let unit = unit_text t.power t.measure ++ rest in
    let factor =
    c.factor_at.ensures.text t.coefficient (has_unit t) unit is.coefficient (ends_factor t.power t.measure rest ends)
    (e ∙ append_assoc (factor_text t.coefficient (has_unit t)) (unit_text t.power t.measure) rest) in
    let read = c.unit_at-power.ensures.text t.power t.measure rest (omega (arith, is.power)) is.measure ends factor.1 in
    (same_term t sign factor.0 read.0 read.1, read.2)
