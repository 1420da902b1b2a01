use Rattle.std.proofs.Common.{◌∙◌, inr, sym}
use Rattle.teco_acceptance.proofs.claims.accepted_by_claims.Goals as goal

pub returns-clause-refused : goal.returns-clause-refused
returns-clause-refused c = inr (record {
  certificate = c.in_ok-claimed.claimed.certificate;
  is = c.in_ok-claimed.ensures.text;
  other = λ same. c.if-index.false
      (c.index.ensures.value ∙ c.entry.ensures ∙ same ∙ sym c.index-2.ensures.value);
})
