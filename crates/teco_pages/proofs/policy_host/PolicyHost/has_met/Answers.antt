use Rattle.teco_pages.proofs.Policies.{implied}
use Rattle.teco_pages.proofs.policy_host.PolicyHost.has_met.Goals as goal

pub returns-then-self-terms : goal.returns-then-self-terms
returns-then-self-terms g c = λ yes.
    implied c.args.self.now.terms.policies.now c.args.terms.policies.now c.args.terms.closes
    c.args.self.now.terms.closes c.args.self.now.host.calls.history.events (c.say_same.ensures yes)
    c.if-self-terms.true c.args.self.now.met
