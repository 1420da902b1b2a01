use Rattle.std.proofs.Common.{refl, rules}
use Rattle.teco_streams.proofs.Calls.{IsBeneath, input-called, read-of}
use Rattle.teco_hosts.specs.Noting.{event_of_reading}
use Rattle.teco_streams.proofs.streams.StreamsHost.read.Goals as goal

pub invariant_of-self : goal.invariant_of-self
invariant_of-self g c =
    let file = c.args.self.now in
    let was : IsBeneath file.input file.output file.history.events (g.H.Host.files file.files) =
    record { beneath = file.beneath; reads = file.reads; writes = file.writes } in
    let done = c.in_ok-n.ensures in
    let now : IsBeneath c.read_stream.new.self.input c.read_stream.new.self.output c.gave.new.self.events
    (g.H.Host.files c.read_stream.new.self.files) = rw (done.input, done.output, done.files)
    (input-called file.input file.output file.history.events c.gave.new.self.events
    (event_of_reading c.in_ok-n.n c.read_stream.new.buf) (g.H.Host.files file.files) (g.H.Host.files file.files)
    (read-of c.in_ok-n.n c.read_stream.new.buf) was
    (λ is. absurd (let no = c.in-Stream.is in cc)) (λ is. refl) (rw done.history at c.gave.ensures.noted)) in
    record { within = search rules; beneath = now.beneath; reads = now.reads; writes = now.writes }

pub invariant_of-self-2 : goal.invariant_of-self-2
invariant_of-self-2 g c =
    let file = c.args.self.now in
    let was : IsBeneath file.input file.output file.history.events (g.H.Host.files file.files) =
    record { beneath = file.beneath; reads = file.reads; writes = file.writes } in
    let done = c.in_ok-n-2.ensures in
    let now = input-called file.input file.output file.history.events c.gave-2.new.self.events
    (event_of_reading c.in_ok-n-2.n c.read.new.buf) (g.H.Host.files file.files) (g.H.Host.files c.read.new.self)
    (read-of c.in_ok-n-2.n c.read.new.buf) was
    (λ is. done.noted) (λ is. absurd (c.in_default.not-Stream is)) c.gave-2.ensures.noted in
    record { within = search rules; beneath = now.beneath; reads = now.reads; writes = now.writes }
