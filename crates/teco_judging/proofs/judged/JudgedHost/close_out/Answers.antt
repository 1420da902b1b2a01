use Rattle.std.proofs.Common.{◌++◌, refl, true}
use Rattle.teco_pages.proofs.Following.{still_closed, still_dropped}
use Rattle.teco_pages.proofs.Policies.{closed_met, was_dropped}
use Rattle.teco_judging.proofs.judged.JudgedHost.close_out.Goals as goal

pub invariant_of-self : goal.invariant_of-self
invariant_of-self g c = record {
  noted = still_closed c.args.self.now.history.events c.closed.new.self.events c.args.self.now.texts
      c.closed.ensures.noted
      c.args.self.now.noted;
  met = closed_met (c.args.self.now.asked.now ++ c.args.self.now.more.items) true c.args.self.now.history.events
      c.closed.new.self.events c.args.self.now.met c.in-Ok.ensures refl
      c.closed.ensures.noted;
}

pub invariant_of-self-in-Err-closed : goal.invariant_of-self-in-Err-closed
invariant_of-self-in-Err-closed g c = record {
  noted = still_dropped c.args.self.now.history.events c.dropped.new.self.events c.args.self.now.texts
      c.dropped.ensures.noted
      c.args.self.now.noted;
  met = was_dropped (c.args.self.now.asked.now ++ c.args.self.now.more.items) true c.args.self.now.history.events
      c.dropped.new.self.events c.args.self.now.met c.dropped.ensures.noted;
}

pub invariant_of-self-in-Err : goal.invariant_of-self-in-Err
invariant_of-self-in-Err g c = record {
  noted = still_dropped c.args.self.now.history.events c.dropped-in-Err.new.self.events c.args.self.now.texts
      c.dropped-in-Err.ensures.noted c.args.self.now.noted;
  met = was_dropped (c.args.self.now.asked.now ++ c.args.self.now.more.items) true c.args.self.now.history.events
      c.dropped-in-Err.new.self.events c.args.self.now.met
      c.dropped-in-Err.ensures.noted;
}
