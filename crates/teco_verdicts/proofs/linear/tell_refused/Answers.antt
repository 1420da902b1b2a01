use Rattle.teco_verdicts.proofs.Answering.{refused_by_claims}
use Rattle.teco_verdicts.proofs.linear.tell_refused.Goals as goal

pub returns : goal.returns
returns g c = refused_by_claims _ _ _ _ _ _ c.refuse_claims.ensures.outcome c.refuse_claims.ensures.line
