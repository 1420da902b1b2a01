use Rattle.std.proofs.Common.{List, ◌<◌, length, subst, arith, IsTrue, true, rules}
use Rattle.std.proofs.lemmas.List.{take_all}
use Rattle.teco_policy.specs.Policies.{KeepEach, Keeps}
use Rattle.teco_policy.specs.declared.policy.Policy.{Policy}
use Rattle.teco_policy.proofs.Keeping.{none_yet, one_more, one_of}
use Rattle.teco_policy.proofs.sameness.say_same.Goals as goal

pub loop-i-init : goal.loop-i-init
loop-i-init c = λ old new each. none_yet c.args.others.now old new

pub loop-i-preserved : goal.loop-i-preserved
loop-i-preserved c = λ old new each.
    let within : c.loop-i.i < length c.args.policies.now =
    omega (arith, c.loop-i-test.true, c.if-policies-others.false) in
    let yes : IsTrue true = search rules in
    let one : Keeps c.index-policies-i.result old new =
    one_of c.args.policies.now c.loop-i.i c.index-policies-i.result old new within c.index-policies-i.is each in
    one_more c.args.others.now c.loop-i.i c.index-others-i.result old new c.loop-i-test.true c.index-others-i.is
    (c.loop-i.invariant old new each) (c.if-not-says_same.ensures yes old new one)

pub returns : goal.returns
returns c = λ yes old new each.
    subst (λ (it : List Policy). KeepEach it old new) (take_all c.loop-i.i c.args.others.now c.loop-i-test.false)
    (c.loop-i.invariant old new each)
