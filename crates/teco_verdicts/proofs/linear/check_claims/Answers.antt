use Rattle.std.proofs.Common.{ℕ, List, subst}
use Rattle.teco_acceptance.specs.Refused.{IsUnclaimedFor}
use Rattle.teco_verdicts.proofs.Answering.{denied_by_claims}
use Rattle.teco_verdicts.proofs.linear.check_claims.Goals as goal

pub returns-in-Err : goal.returns-in-Err
returns-in-Err g c = denied_by_claims c.args.claim.now.bytes.items c.args.sourced.now.library c.args.entry _ _
    c.in-Err.refused c.refuse_linear.result
    (subst (λ (bytes : List ℕ). IsUnclaimedFor bytes c.args.sourced.now.library c.args.entry c.in-Err.refused)
    c.deref.ensures.value c.in-Err.ensures.refused)
    c.refuse_linear.ensures.outcome c.refuse_linear.ensures.line
