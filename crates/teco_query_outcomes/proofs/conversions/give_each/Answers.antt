use Rattle.teco_query_outcomes.proofs.Prelude.{subst, All}
use Rattle.std.proofs.lemmas.List.{take_all}
use Rattle.teco_query_outcomes.specs.Conversions.{AddsGiven, GivesAmong}
use Rattle.teco_query_outcomes.proofs.Converting.{more_given}
use Rattle.teco_query_outcomes.proofs.conversions.give_each.Goals as goal

pub loop-case-preserved : goal.loop-case-preserved
loop-case-preserved c =
    let old = c.loop-case.cases.items in
    let new = c.add_given.new.cases.items in
    more_given old c.args.behind.now new c.loop-case.case-index c.case-item.result c.loop-case-test.true
    c.loop-case.invariant (subst (λ case. AddsGiven case old new) c.case-item.is c.in_ok-add_given.ensures)

pub returns : goal.returns
returns c =
    subst (All (GivesAmong c.loop-case.cases.items)) (take_all c.loop-case.case-index c.args.behind.now
    c.loop-case-test.false) c.loop-case.invariant
