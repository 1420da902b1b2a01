use Rattle.teco_verify.proofs.Again.{accepted_again, judged_again}
use Rattle.teco_verify.proofs.verdict.found_of.Goals as goal

pub returns-in-Ok-clause-accepted : goal.returns-in-Ok-clause-accepted
returns-in-Ok-clause-accepted c =
    let asked = c.args.asked.now in
    accepted_again asked.library.now asked.entry c.found_by_search-first.result.verdict
    c.found_again.result.verdict c.in-Ok.verified c.in-Ok.is c.found_again.ensures.again
    c.found_by_search-first.ensures.accepted

pub returns-in-Ok-clause-judged : goal.returns-in-Ok-clause-judged
returns-in-Ok-clause-judged c =
    let asked = c.args.asked.now in
    judged_again asked.library.now asked.entry c.found_by_search-first.result.verdict
    c.found_again.result.verdict c.in-Ok.verified c.in-Ok.is c.found_by_search-first.ensures.entry
    c.found_by_search-first.ensures.made c.found_again.ensures.again c.found_by_search-first.ensures.judged
