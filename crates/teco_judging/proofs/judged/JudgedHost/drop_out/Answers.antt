use Rattle.std.proofs.Common.{◌++◌, true}
use Rattle.teco_pages.proofs.Following.{still_dropped}
use Rattle.teco_pages.proofs.Policies.{was_dropped}
use Rattle.teco_judging.proofs.judged.JudgedHost.drop_out.Goals as goal

pub invariant_of-self : goal.invariant_of-self
invariant_of-self g c = record {
  noted = still_dropped c.args.self.now.history.events c.dropped.new.self.events c.args.self.now.texts
      c.dropped.ensures.noted
      c.args.self.now.noted;
  met = was_dropped (c.args.self.now.asked.now ++ c.args.self.now.more.items) true c.args.self.now.history.events
      c.dropped.new.self.events
      c.args.self.now.met c.dropped.ensures.noted;
}
