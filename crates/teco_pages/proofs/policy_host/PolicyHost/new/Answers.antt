use Rattle.teco_pages.proofs.Policies.{new_met}
use Rattle.teco_pages.proofs.policy_host.PolicyHost.new.Goals as goal

pub invariant_of-result : goal.invariant_of-result
invariant_of-result g c = record {
  met = new_met c.args.terms.policies.now c.args.terms.closes c.keep_texts.new.self.calls.history.events
      c.keep_texts.ensures.noted;
}
