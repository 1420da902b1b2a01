use Rattle.std.proofs.Common.{List, refl, subst}
use Rattle.std.proofs.lemmas.List.{take_all}
use Rattle.teco_policy.specs.Policies.{KeepEach}
use Rattle.teco_policy.specs.declared.policy.Policy.{Policy}
use Rattle.teco_policy.proofs.Keeping.{none_yet, one_more, one_of}
use Rattle.teco_policy.proofs.broken.first_broken.Goals as goal

pub loop-policy-init : goal.loop-policy-init
loop-policy-init c = none_yet c.args.policies.now c.args.old.now c.args.new.now

pub loop-policy-preserved : goal.loop-policy-preserved
loop-policy-preserved c =
    one_more c.args.policies.now c.loop-policy.policy c.index-policies-policy.result c.args.old.now c.args.new.now
    c.loop-policy-test.true c.index-policies-policy.is c.loop-policy.invariant (c.in_default.ensures.kept.0 refl)

pub returns-in-Some-clause-kept : goal.returns-in-Some-clause-kept
returns-in-Some-clause-kept c = (
  λ none. absurd (cc),
  λ each.
      c.in-Some.ensures.kept.1 (one_of c.args.policies.now c.loop-policy.policy c.index-policies-policy.result
      c.args.old.now c.args.new.now c.loop-policy-test.true c.index-policies-policy.is each),
)

pub returns-in-Some-clause-first : goal.returns-in-Some-clause-first
returns-in-Some-clause-first c = record {
  before = c.loop-policy.invariant;
  within = c.loop-policy-test.true;
  asked = c.index-policies-policy.result;
  stands = c.index-policies-policy.is;
  breaks = c.in-Some.ensures.first;
}

pub returns-clause-kept : goal.returns-clause-kept
returns-clause-kept c = (
  λ none. subst (λ (it : List Policy). KeepEach it c.args.old.now c.args.new.now)
      (take_all c.loop-policy.policy c.args.policies.now c.loop-policy-test.false) c.loop-policy.invariant,
  λ each.
      refl,
)
