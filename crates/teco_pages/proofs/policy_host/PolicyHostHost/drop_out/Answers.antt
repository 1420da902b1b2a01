use Rattle.teco_pages.proofs.Policies.{was_dropped}
use Rattle.teco_pages.proofs.policy_host.PolicyHostHost.drop_out.Goals as goal

pub invariant_of-self : goal.invariant_of-self
invariant_of-self g c = record {
  met = was_dropped c.args.self.now.terms.policies.now c.args.self.now.terms.closes
      c.args.self.now.host.calls.history.events c.drop_out.new.self.calls.history.events
      c.args.self.now.met c.drop_out.ensures.noted;
}

pub invariant_of-self-in-Ok : goal.invariant_of-self-in-Ok
invariant_of-self-in-Ok g c = record {
  met = was_dropped c.args.self.now.terms.policies.now c.args.self.now.terms.closes
      c.args.self.now.host.calls.history.events c.drop_out-in-Ok.new.self.calls.history.events
      c.args.self.now.met c.drop_out-in-Ok.ensures.noted;
}

pub invariant_of-self-in-Err : goal.invariant_of-self-in-Err
invariant_of-self-in-Err g c = record {
  met = was_dropped c.args.self.now.terms.policies.now c.args.self.now.terms.closes
      c.args.self.now.host.calls.history.events c.refuse_out.new.self.calls.history.events
      c.args.self.now.met c.refuse_out.ensures.noted;
}
