use Rattle.teco_verify.proofs.Prelude.{◌∙◌, subst, sym, IfOk, argument_of, AreMadeBy, plain_fields}
use Rattle.teco_verify.proofs.Accepted.{begins_none}
use Rattle.teco_verify.proofs.Again.{accepted_made, made_plain}
use Rattle.teco_verify.proofs.Judged.{judged_where_plain}
use Rattle.teco_verify.proofs.verdict.found_by_search.Goals as goal

pub returns-in-Ok-clause-accepted : goal.returns-in-Ok-clause-accepted
returns-in-Ok-clause-accepted c = λ steps most takes_none accepted.
    let asked = c.args.asked.now in
    let none = begins_none asked.library.now.texts asked.entry steps most accepted c.args.nodes.now
    c.requires in
    let plain = plain_fields asked.entry steps most in
    c.found_with.ensures.again plain
    (subst
    (λ those. AreMadeBy (argument_of asked.library.now asked.entry) c.args.nodes.now those asked.entry plain)
    (sym (c.deref.ensures.value ∙ c.in-Ok.ensures.none none))
    (accepted_made asked.library.now asked.entry steps most takes_none accepted c.args.nodes.now c.requires))

pub returns-in-Err-clause-accepted : goal.returns-in-Err-clause-accepted
returns-in-Err-clause-accepted c = λ steps most takes_none accepted.
    let none = begins_none c.args.asked.now.library.now.texts c.args.asked.now.entry steps most
    accepted c.args.nodes.now c.requires in
    absurd (c.in-Err.ensures.none none)

pub returns-in-Ok-clause-judged : goal.returns-in-Ok-clause-judged
returns-in-Ok-clause-judged c =
    judged_where_plain c.args.asked.now.library.now c.args.asked.now.entry c.args.nodes.now
    c.requires c.found_with.result.verdict
    (λ none. c.found_with.ensures.judged (c.deref.ensures.value ∙ c.in-Ok.ensures.none none))

pub returns-in-Err-clause-judged : goal.returns-in-Err-clause-judged
returns-in-Err-clause-judged c =
    judged_where_plain c.args.asked.now.library.now c.args.asked.now.entry c.args.nodes.now
    c.requires c.unfit.result.verdict
    (λ none. absurd (c.in-Err.ensures.none none))

pub returns-in-Ok-clause-made : goal.returns-in-Ok-clause-made
returns-in-Ok-clause-made c =
    let asked = c.args.asked.now in
    made_plain asked.library.now asked.entry c.args.nodes.now c.found_with.result.verdict c.requires
    (λ none. subst (λ those. IfOk c.found_with.result.verdict (λ verified. AreMadeBy (argument_of
    asked.library.now asked.entry) c.args.nodes.now those asked.entry verified.fields))
    (c.deref.ensures.value ∙ c.in-Ok.ensures.none none) c.found_with.ensures.made)

pub returns-in-Err-clause-made : goal.returns-in-Err-clause-made
returns-in-Err-clause-made c =
    let asked = c.args.asked.now in
    made_plain asked.library.now asked.entry c.args.nodes.now c.unfit.result.verdict c.requires
    (λ none. absurd (c.in-Err.ensures.none none))
