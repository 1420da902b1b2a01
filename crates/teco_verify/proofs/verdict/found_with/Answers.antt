use Rattle.teco_verify.proofs.Prelude.{◌≡◌, subst, sym, ap, ◌∙◌, Ok, Err, argument_of, Derives, DerivesUpTo, derive}
use Rattle.teco_verify.proofs.Prelude.{refusal_of_unfit, unfit_by, unfit_of, IsJudged}
use Rattle.teco_verify.proofs.Again.{flawed_only_memory, found_same, underived_only_memory}
use Rattle.teco_verify.proofs.Judged.{underived_judged, flawed_judged, certified_judged}
use Rattle.teco_verify.proofs.Refused.{memory_is_found}
use Rattle.teco_verify.proofs.verdict.found_with.Goals as goal

pub returns-in-Err-clause-judged : goal.returns-in-Err-clause-judged
returns-in-Err-clause-judged c = λ nothing.
    let library = c.args.asked.now.library.now in
    let nodes = c.args.nodes.now in
    let derives : Derives (derive (argument_of library c.args.asked.now.entry) nodes c.args.chosen.now)
    (Err c.in-Err.why) = subst (λ argument. Derives (derive argument nodes c.args.chosen.now) (Err c.in-Err.why))
    c.argument.ensures c.in-Err.ensures.value in
    let told : DerivesUpTo (argument_of library c.args.asked.now.entry) nodes c.args.chosen.now
    (Err c.in-Err.why) = subst (λ argument. DerivesUpTo argument nodes c.args.chosen.now (Err c.in-Err.why))
    c.argument.ensures c.in-Err.ensures.told in
    subst (IsJudged library c.args.asked.now.entry)
    (sym (c.unfit.ensures ∙ ap (λ why. Err (refusal_of_unfit nodes why)) c.unfit_underived.ensures))
    (underived_judged library c.args.asked.now.entry nodes c.requires c.args.chosen.now nothing c.in-Err.why
    derives told c.in-Err.ensures.small)

pub returns-in-Err-certified-clause-judged : goal.returns-in-Err-certified-clause-judged
returns-in-Err-certified-clause-judged c = λ nothing.
    let library = c.args.asked.now.library.now in
    let nodes = c.args.nodes.now in
    let derived : derive (argument_of library c.args.asked.now.entry) nodes c.args.chosen.now ≡ Ok c.in-Ok.table =
    subst (λ argument. derive argument nodes c.args.chosen.now ≡ Ok c.in-Ok.table) c.argument.ensures
    c.in-Ok.ensures.value in
    subst (IsJudged library c.args.asked.now.entry)
    (sym (c.unfit-in-Err-certified.ensures ∙ ap (λ why. Err (refusal_of_unfit nodes why)) c.unfit_flawed.ensures))
    (flawed_judged library c.args.asked.now.entry nodes c.requires c.args.chosen.now nothing c.in-Ok.table
    derived c.in-Err-certified.flaw c.in-Err-certified.ensures.value)

pub returns-in-Ok-certified-clause-judged : goal.returns-in-Ok-certified-clause-judged
returns-in-Ok-certified-clause-judged c = λ nothing.
    let library = c.args.asked.now.library.now in
    let nodes = c.args.nodes.now in
    let derived : derive (argument_of library c.args.asked.now.entry) nodes c.args.chosen.now ≡ Ok c.in-Ok.table =
    subst (λ argument. derive argument nodes c.args.chosen.now ≡ Ok c.in-Ok.table) c.argument.ensures
    c.in-Ok.ensures.value in
    certified_judged library c.args.asked.now.entry nodes c.requires c.args.chosen.now nothing c.in-Ok.table
    derived c.in-Ok-certified.verified c.in-Ok-certified.ensures.told.printed.closed c.in-Ok-certified.ensures.value

pub returns-in-Err-clause-again : goal.returns-in-Err-clause-again
returns-in-Err-clause-again c = λ fields made.
    let argument = argument_of c.args.asked.now.library.now c.args.asked.now.entry in
    let derives : Derives (derive argument c.args.nodes.now c.args.chosen.now) (Err c.in-Err.why) =
    subst (λ argument. Derives (derive argument c.args.nodes.now c.args.chosen.now) (Err c.in-Err.why))
    c.argument.ensures c.in-Err.ensures.value in
    let memory = underived_only_memory argument c.args.nodes.now c.args.chosen.now c.args.asked.now.entry fields made
    c.in-Err.why derives in
    memory_is_found fields c.unfit.result.verdict (c.unfit.ensures
    ∙ ap (λ why. Err (refusal_of_unfit c.args.nodes.now why)) (c.unfit_underived.ensures ∙ ap unfit_of memory))

pub returns-in-Err-certified-clause-again : goal.returns-in-Err-certified-clause-again
returns-in-Err-certified-clause-again c = λ fields made.
    let argument = argument_of c.args.asked.now.library.now c.args.asked.now.entry in
    let derived : derive argument c.args.nodes.now c.args.chosen.now ≡ Ok c.in-Ok.table =
    subst (λ argument. derive argument c.args.nodes.now c.args.chosen.now ≡ Ok c.in-Ok.table) c.argument.ensures
    c.in-Ok.ensures.value in
    let memory = flawed_only_memory argument c.args.nodes.now c.args.chosen.now c.args.asked.now.entry fields made
    c.in-Ok.table derived c.in-Err-certified.flaw c.in-Err-certified.ensures.value in
    memory_is_found fields c.unfit-in-Err-certified.result.verdict (c.unfit-in-Err-certified.ensures
    ∙ ap (λ why. Err (refusal_of_unfit c.args.nodes.now why)) (c.unfit_flawed.ensures ∙ ap unfit_by memory))

pub returns-in-Ok-certified-clause-again : goal.returns-in-Ok-certified-clause-again
returns-in-Ok-certified-clause-again c = λ fields made.
    let argument = argument_of c.args.asked.now.library.now c.args.asked.now.entry in
    let derived : derive argument c.args.nodes.now c.args.chosen.now ≡ Ok c.in-Ok.table =
    subst (λ argument. derive argument c.args.nodes.now c.args.chosen.now ≡ Ok c.in-Ok.table) c.argument.ensures
    c.in-Ok.ensures.value in
    found_same argument c.args.nodes.now c.args.chosen.now c.args.asked.now.entry fields made c.in-Ok.table derived
    c.in-Ok-certified.verified.fields c.in-Ok-certified.ensures.value

pub returns-in-Ok-certified-clause-made : goal.returns-in-Ok-certified-clause-made
returns-in-Ok-certified-clause-made c = record {
  table = c.in-Ok.table;
  derived = subst (λ argument. derive argument c.args.nodes.now c.args.chosen.now ≡ Ok c.in-Ok.table) c.argument.ensures
      c.in-Ok.ensures.value;
  kept = c.in-Ok.ensures.kept;
  closed = c.in-Ok-certified.ensures.told.printed.closed;
  printed = c.in-Ok-certified.ensures.value;
}
