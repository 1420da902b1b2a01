use Rattle.teco_judging.proofs.Asked.{asked_met}
use Rattle.teco_judging.proofs.judged.Judged.has_met.Goals as goal

pub returns : goal.returns
returns g c = λ yes.
    asked_met c.args.self.now.asked.now c.args.self.now.more.items c.args.policies.now
    c.args.self.now.history.events (c.say_same.ensures yes) c.args.self.now.met
