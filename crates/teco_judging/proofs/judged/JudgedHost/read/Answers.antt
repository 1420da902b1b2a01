use Rattle.std.proofs.Common.{◌++◌}
use Rattle.teco_hosts.specs.Noting.{event_of_reading}
use Rattle.teco_judging.proofs.Asked.{now_noted, quiet_met, quiet_reading}
use Rattle.teco_judging.proofs.judged.JudgedHost.read.Goals as goal

pub invariant_of-self-2 : goal.invariant_of-self-2
invariant_of-self-2 g c = record {
  noted = now_noted c.args.self.now.history.events c.gave.new.self.events (event_of_reading c.in_ok-n.n c.read.new.buf)
      c.args.self.now.texts c.note_read.new.kept c.gave.ensures.noted c.note_read.ensures c.args.self.now.noted;
  met = quiet_met (c.args.self.now.asked.now ++ c.args.self.now.more.items) c.args.self.now.history.events
      c.gave.new.self.events (event_of_reading c.in_ok-n.n c.read.new.buf)
      c.args.self.now.met (quiet_reading c.in_ok-n.n c.read.new.buf) c.gave.ensures.noted;
}
