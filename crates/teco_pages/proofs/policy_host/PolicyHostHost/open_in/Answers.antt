use Rattle.teco_pages.proofs.Policies.{opened_in}
use Rattle.teco_pages.proofs.policy_host.PolicyHostHost.open_in.Goals as goal

pub invariant_of-self : goal.invariant_of-self
invariant_of-self g c = record {
  met = opened_in c.args.self.now.terms.policies.now c.args.self.now.terms.closes
      c.args.self.now.host.calls.history.events c.open_in.new.self.calls.history.events c.args.name.now c.open_in.result
      c.args.self.now.met c.open_in.ensures.noted;
}
