use Rattle.std.proofs.Common.{◌++◌, true}
use Rattle.teco_pages.proofs.Policies.{new_met}
use Rattle.teco_judging.proofs.judged.Judged.ask.Goals as goal

pub invariant_of-self-clause-met : goal.invariant_of-self-clause-met
invariant_of-self-clause-met g c =
    new_met (c.args.self.now.asked.now ++ c.args.more.items) true c.args.self.now.history.events c.requires.fresh
