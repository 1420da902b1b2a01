use Rattle.teco_verdicts.proofs.Answering.{of_refused, of_verified, refused_verdict, straight_verdict}
use Rattle.teco_verdicts.proofs.verifying.verify_table.Goals as goal

pub returns : goal.returns
returns g c =
    let told = c.in_ok-account.ensures in
    let refused = refused_verdict c.args.library.now c.args.entry _ told.straight told.unexpanded told.underived
    told.unclosed told.overflow told.printed in
    of_refused c.args.library.now c.args.entry _ _ c.in-Err.refusal c.refuse_known.result
    (rw c.in-Err.ensures at refused) c.refuse_known.ensures.outcome c.refuse_known.ensures.line

pub returns-in-Ok : goal.returns-in-Ok
returns-in-Ok g c =
    let told = c.in_ok-account.ensures in
    let is = c.in-Ok.ensures in
    let straight = straight_verdict c.args.library.now c.args.entry _ told.straight in
    of_verified c.args.library.now c.args.entry _ _ c.in-Ok.verified.now c.accept.result
    (rw is at told.library) c.is_certified.ensures (rw is at told.argument) (rw is at told.entry)
    (rw is at straight) (rw is at told.made) c.accept.ensures.outcome c.accept.ensures.text
