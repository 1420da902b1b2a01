use Rattle.teco_pages.proofs.Policies.{opened_out}
use Rattle.teco_pages.proofs.policy_host.PolicyHostHost.open_out.Goals as goal

pub invariant_of-self : goal.invariant_of-self
invariant_of-self g c = record {
  met = opened_out c.args.self.now.terms.policies.now c.args.self.now.terms.closes
      c.args.self.now.host.calls.history.events c.open_out.new.self.calls.history.events c.args.name.now
      c.open_out.result c.args.self.now.met c.open_out.ensures.noted;
}
