use Rattle.teco_pages.proofs.Policies.{was_measured}
use Rattle.teco_pages.proofs.policy_host.PolicyHostHost.left_of_input.Goals as goal

pub invariant_of-self : goal.invariant_of-self
invariant_of-self g c = record {
  met = was_measured c.args.self.now.terms.policies.now c.args.self.now.terms.closes
      c.args.self.now.host.calls.history.events c.left_of_input.new.self.calls.history.events c.left_of_input.result
      c.args.self.now.met c.left_of_input.ensures.noted;
}
