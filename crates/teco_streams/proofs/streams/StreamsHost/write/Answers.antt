use Rattle.std.proofs.Common.{take, refl, rules}
use Rattle.teco_streams.proofs.Calls.{IsBeneath, output-called}
use Rattle.teco_hosts.specs.Events.{wrote}
use Rattle.teco_streams.proofs.streams.StreamsHost.write.Goals as goal

pub invariant_of-self : goal.invariant_of-self
invariant_of-self g c =
    let file = c.args.self.now in
    let was : IsBeneath file.input file.output file.history.events (g.H.Host.files file.files) =
    record { beneath = file.beneath; reads = file.reads; writes = file.writes } in
    let done = c.in_ok-n.ensures in
    let now : IsBeneath c.write_stream.new.self.input c.write_stream.new.self.output c.wrote.new.self.events
    (g.H.Host.files c.write_stream.new.self.files) = rw (done.input, done.output, done.files)
    (output-called file.input file.output file.history.events c.wrote.new.self.events
    (wrote (take c.in_ok-n.n c.args.bytes.now)) (g.H.Host.files file.files) (g.H.Host.files file.files)
    (λ i o. (refl, refl, refl)) was
    (λ is. absurd (let no = c.in-Stream.is in cc)) (λ is. refl) (rw done.history at c.wrote.ensures.noted)) in
    record { within = search rules; beneath = now.beneath; reads = now.reads; writes = now.writes }

pub invariant_of-self-2 : goal.invariant_of-self-2
invariant_of-self-2 g c =
    let file = c.args.self.now in
    let was : IsBeneath file.input file.output file.history.events (g.H.Host.files file.files) =
    record { beneath = file.beneath; reads = file.reads; writes = file.writes } in
    let done = c.in_ok-n-2.ensures in
    let now = output-called file.input file.output file.history.events c.wrote-2.new.self.events
    (wrote (take c.in_ok-n-2.n c.args.bytes.now)) (g.H.Host.files file.files) (g.H.Host.files c.write.new.self)
    (λ i o. (refl, refl, refl)) was
    (λ is. done.noted) (λ is. absurd (c.in_default.not-Stream is)) c.wrote-2.ensures.noted in
    record { within = search rules; beneath = now.beneath; reads = now.reads; writes = now.writes }
