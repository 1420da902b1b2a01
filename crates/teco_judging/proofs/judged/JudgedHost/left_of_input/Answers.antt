use Rattle.std.proofs.Common.{◌++◌, refl}
use Rattle.teco_hosts.specs.Events.{measured}
use Rattle.teco_judging.proofs.Asked.{quiet_met}
use Rattle.teco_pages.proofs.Following.{still_measured}
use Rattle.teco_judging.proofs.judged.JudgedHost.left_of_input.Goals as goal

pub invariant_of-self-2 : goal.invariant_of-self-2
invariant_of-self-2 g c = record {
  noted = still_measured c.args.self.now.history.events c.measured.new.self.events c.in_ok-left.left
      c.args.self.now.texts
      c.measured.ensures.noted c.args.self.now.noted;
  met = quiet_met (c.args.self.now.asked.now ++ c.args.self.now.more.items) c.args.self.now.history.events
      c.measured.new.self.events (measured c.in_ok-left.left)
      c.args.self.now.met refl c.measured.ensures.noted;
}
