use Rattle.teco_pages.proofs.Policies.{was_read}
use Rattle.teco_pages.proofs.policy_host.PolicyHostHost.read.Goals as goal

pub invariant_of-self : goal.invariant_of-self
invariant_of-self g c = record {
  met = was_read c.args.self.now.terms.policies.now c.args.self.now.terms.closes
      c.args.self.now.host.calls.history.events c.read.new.self.calls.history.events c.read.new.buf c.read.result
      c.args.self.now.met c.read.ensures.noted;
}
