use Rattle.std.proofs.Common.{◌++◌, refl}
use Rattle.teco_hosts.specs.Events.{opened_input}
use Rattle.teco_judging.proofs.Asked.{now_noted, quiet_met}
use Rattle.teco_judging.proofs.judged.JudgedHost.open_in.Goals as goal

pub invariant_of-self-2 : goal.invariant_of-self-2
invariant_of-self-2 g c = record {
  noted = now_noted c.args.self.now.history.events c.opened_input.new.self.events (opened_input c.args.name.now)
      c.args.self.now.texts
      c.note_input.new.kept c.opened_input.ensures.noted c.note_input.ensures c.args.self.now.noted;
  met = quiet_met (c.args.self.now.asked.now ++ c.args.self.now.more.items) c.args.self.now.history.events
      c.opened_input.new.self.events (opened_input c.args.name.now)
      c.args.self.now.met refl c.opened_input.ensures.noted;
}
