use Rattle.std.proofs.Common.{◌++◌, length, refl, take}
use Rattle.teco_hosts.specs.Events.{wrote}
use Rattle.teco_judging.proofs.Asked.{now_noted, quiet_met}
use Rattle.teco_judging.proofs.judged.JudgedHost.write.Goals as goal

pub invariant_of-self-then-asks_nothing : goal.invariant_of-self-then-asks_nothing
invariant_of-self-then-asks_nothing g c =
    let some = wrote (take c.in_ok-n.n c.args.bytes.now) in
    record {
      noted = now_noted c.args.self.now.history.events c.wrote.new.self.events some c.args.self.now.texts
          c.note_written.new.kept
          c.wrote.ensures.noted c.note_written.ensures c.args.self.now.noted;
      met = quiet_met (c.args.self.now.asked.now ++ c.args.self.now.more.items) c.args.self.now.history.events
          c.wrote.new.self.events some c.args.self.now.met refl
          c.wrote.ensures.noted;
    }

pub invariant_of-self-2 : goal.invariant_of-self-2
invariant_of-self-2 g c =
    let all = wrote (take (length c.args.bytes.now) c.args.bytes.now) in
    record {
      noted = now_noted c.args.self.now.history.events c.wrote-2.new.self.events all c.args.self.now.texts
          c.note_written-2.new.kept
          c.wrote-2.ensures.noted c.note_written-2.ensures c.args.self.now.noted;
      met = quiet_met (c.args.self.now.asked.now ++ c.args.self.now.more.items) c.args.self.now.history.events
          c.wrote-2.new.self.events all c.args.self.now.met refl
          c.wrote-2.ensures.noted;
    }
