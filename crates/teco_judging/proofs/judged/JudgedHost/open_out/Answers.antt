use Rattle.std.proofs.Common.{◌++◌, refl}
use Rattle.teco_hosts.specs.Events.{opened_output}
use Rattle.teco_judging.proofs.Asked.{now_noted, quiet_met}
use Rattle.teco_judging.proofs.judged.JudgedHost.open_out.Goals as goal

pub invariant_of-self-2 : goal.invariant_of-self-2
invariant_of-self-2 g c = record {
  noted = now_noted c.args.self.now.history.events c.opened_output.new.self.events (opened_output c.args.name.now)
      c.args.self.now.texts
      c.note_output.new.kept c.opened_output.ensures.noted c.note_output.ensures c.args.self.now.noted;
  met = quiet_met (c.args.self.now.asked.now ++ c.args.self.now.more.items) c.args.self.now.history.events
      c.opened_output.new.self.events (opened_output c.args.name.now)
      c.args.self.now.met refl c.opened_output.ensures.noted;
}
