use Rattle.teco_verdicts.proofs.Answering.{of_denied}
use Rattle.teco_verdicts.proofs.checking.check_table.Goals as goal

pub returns-in-Err : goal.returns-in-Err
returns-in-Err g c = of_denied _ _ _ _ _ c.in-Err.refusal c.refuse_claim.result c.in-Err.ensures.refused
    c.in-Err.ensures.denied c.refuse_claim.ensures.outcome c.refuse_claim.ensures.line
