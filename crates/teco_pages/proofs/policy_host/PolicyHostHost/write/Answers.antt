use Rattle.teco_pages.proofs.Policies.{was_written}
use Rattle.teco_pages.proofs.policy_host.PolicyHostHost.write.Goals as goal

pub invariant_of-self : goal.invariant_of-self
invariant_of-self g c = record {
  met = was_written c.args.self.now.terms.policies.now c.args.self.now.terms.closes
      c.args.self.now.host.calls.history.events c.write.new.self.calls.history.events c.args.bytes.now c.write.result
      c.args.self.now.met c.write.ensures.noted;
}
