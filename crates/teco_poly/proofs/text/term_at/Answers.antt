use Rattle.teco_poly.proofs.Prelude.{◌≡◌, ◌<◌, true, false, ◌∙◌, refl, arith}
use Rattle.teco_poly.proofs.Terms.{power_refused, power_stripped, term_refused, term_read}
use Rattle.teco_poly.proofs.text.term_at.Goals as goal
use Rattle.teco_poly.proofs.text.term_at.Goals.{then-coefficient-eq0-via-then-coefficient-eq0}
use Rattle.teco_poly.proofs.text.term_at.Goals.{then-coefficient-eq0-via-else-coefficient-eq0+then-not-ends_term}

pub returns-in_err-rest-clause-none : goal.returns-in_err-rest-clause-none
returns-in_err-rest-clause-none c =
    rw c.from_residual-in_err-rest.ensures
    (power_refused c.args.text.now c.args.power c.in_ok-coefficient.coefficient c.in_ok-coefficient.rest.now
    c.in_ok-coefficient.ensures.found
    c.as_bytes.result.now (c.as_bytes.ensures.value ∙ c.power_text.ensures) c.in_err-rest.ensures.cases)

refuted : false ≡ true → ⊥
refuted e = cc

pub returns-then-coefficient-eq0-clause-none : goal.returns-then-coefficient-eq0-clause-none
returns-then-coefficient-eq0-clause-none c =
    term_refused c.args.text.now c.args.power c.in_ok-coefficient.coefficient c.in_ok-coefficient.rest.now
    c.in_ok-coefficient.ensures.found
    c.in_ok-rest.rest.now
    (power_stripped c.args.power c.as_bytes.result.now c.in_ok-coefficient.rest.now c.in_ok-rest.rest.now
    (c.as_bytes.ensures.value ∙ c.power_text.ensures) c.in_ok-rest.ensures.cases.0 c.in_ok-rest.ensures.cases.1)
    (elim c.then-coefficient-eq0.branch [
      | then-coefficient-eq0-via-then-coefficient-eq0 w ↦ λ (some : 0 < c.in_ok-coefficient.coefficient) ends. absurd
          (omega arith)
      | then-coefficient-eq0-via-else-coefficient-eq0+then-not-ends_term w ↦ λ some ends.
          refuted (w.if-not-ends_term.ensures.1 ends)
    ])

pub returns-clause-found : goal.returns-clause-found
returns-clause-found c =
    term_read c.args.text.now c.args.power c.in_ok-coefficient.coefficient c.in_ok-coefficient.rest.now
    c.in_ok-coefficient.ensures.found
    c.in_ok-rest.rest.now
    (power_stripped c.args.power c.as_bytes.result.now c.in_ok-coefficient.rest.now c.in_ok-rest.rest.now
    (c.as_bytes.ensures.value ∙ c.power_text.ensures) c.in_ok-rest.ensures.cases.0 c.in_ok-rest.ensures.cases.1)
    (omega arith) (c.if-not-ends_term.ensures.0 refl)
