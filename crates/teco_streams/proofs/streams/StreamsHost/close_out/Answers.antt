use Rattle.std.proofs.Common.{refl, rules}
use Rattle.teco_streams.proofs.Calls.{IsBeneath, output-called}
use Rattle.teco_hosts.specs.Events.{closed, dropped}
use Rattle.teco_streams.proofs.streams.StreamsHost.close_out.Goals as goal

pub invariant_of-self : goal.invariant_of-self
invariant_of-self g c =
    let file = c.args.self.now in
    let was : IsBeneath file.input file.output file.history.events (g.H.Host.files file.files) =
    record { beneath = file.beneath; reads = file.reads; writes = file.writes } in
    let done = c.flush_stream-flushed.ensures in
    let now : IsBeneath c.flush_stream-flushed.new.self.input c.flush_stream-flushed.new.self.output
    c.closed.new.self.events (g.H.Host.files c.flush_stream-flushed.new.self.files) =
    rw (done.input, done.output, done.files)
    (output-called file.input file.output file.history.events c.closed.new.self.events closed
    (g.H.Host.files file.files) (g.H.Host.files file.files) (λ i o. (refl, refl, refl)) was
    (λ is. absurd (let no = c.in-Stream.is in cc)) (λ is. refl) (rw done.history at c.closed.ensures.noted)) in
    record { within = search rules; beneath = now.beneath; reads = now.reads; writes = now.writes }

pub invariant_of-self-in-Err : goal.invariant_of-self-in-Err
invariant_of-self-in-Err g c =
    let file = c.args.self.now in
    let was : IsBeneath file.input file.output file.history.events (g.H.Host.files file.files) =
    record { beneath = file.beneath; reads = file.reads; writes = file.writes } in
    let done = c.flush_stream-flushed.ensures in
    let now : IsBeneath c.flush_stream-flushed.new.self.input c.flush_stream-flushed.new.self.output
    c.dropped.new.self.events (g.H.Host.files c.flush_stream-flushed.new.self.files) =
    rw (done.input, done.output, done.files)
    (output-called file.input file.output file.history.events c.dropped.new.self.events dropped
    (g.H.Host.files file.files) (g.H.Host.files file.files) (λ i o. (refl, refl, refl)) was
    (λ is. absurd (let no = c.in-Stream.is in cc)) (λ is. refl) (rw done.history at c.dropped.ensures.noted)) in
    record { within = search rules; beneath = now.beneath; reads = now.reads; writes = now.writes }

pub invariant_of-self-in-Ok-closed : goal.invariant_of-self-in-Ok-closed
invariant_of-self-in-Ok-closed g c =
    let file = c.args.self.now in
    let was : IsBeneath file.input file.output file.history.events (g.H.Host.files file.files) =
    record { beneath = file.beneath; reads = file.reads; writes = file.writes } in
    let now = output-called file.input file.output file.history.events c.closed-in-Ok-closed.new.self.events closed
    (g.H.Host.files file.files) (g.H.Host.files c.close_out-closed.new.self) (λ i o. (refl, refl, refl)) was
    (λ is. rw (c.in-Ok-closed.is) at c.close_out-closed.ensures.noted) (λ is. absurd (c.in_default.not-Stream is))
    c.closed-in-Ok-closed.ensures.noted in
    record { within = search rules; beneath = now.beneath; reads = now.reads; writes = now.writes }

pub invariant_of-self-in-Err-closed : goal.invariant_of-self-in-Err-closed
invariant_of-self-in-Err-closed g c =
    let file = c.args.self.now in
    let was : IsBeneath file.input file.output file.history.events (g.H.Host.files file.files) =
    record { beneath = file.beneath; reads = file.reads; writes = file.writes } in
    let now = output-called file.input file.output file.history.events c.dropped-in-Err-closed.new.self.events dropped
    (g.H.Host.files file.files) (g.H.Host.files c.close_out-closed.new.self) (λ i o. (refl, refl, refl)) was
    (λ is. rw (c.in-Err-closed.is) at c.close_out-closed.ensures.noted) (λ is. absurd (c.in_default.not-Stream is))
    c.dropped-in-Err-closed.ensures.noted in
    record { within = search rules; beneath = now.beneath; reads = now.reads; writes = now.writes }
