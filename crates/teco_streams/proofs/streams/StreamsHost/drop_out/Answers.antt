use Rattle.std.proofs.Common.{refl, rules}
use Rattle.teco_streams.proofs.Calls.{IsBeneath, output-called}
use Rattle.teco_hosts.specs.Events.{dropped}
use Rattle.teco_streams.proofs.streams.StreamsHost.drop_out.Goals as goal

pub invariant_of-self : goal.invariant_of-self
invariant_of-self g c =
    let file = c.args.self.now in
    let was : IsBeneath file.input file.output file.history.events (g.H.Host.files file.files) =
    record { beneath = file.beneath; reads = file.reads; writes = file.writes } in
    let now = output-called file.input file.output file.history.events c.dropped.new.self.events dropped
    (g.H.Host.files file.files) (g.H.Host.files c.drop_out.new.self) (λ i o. (refl, refl, refl)) was
    (λ is. c.drop_out.ensures.noted) (λ is. absurd (let no = c.in-File.is in cc)) c.dropped.ensures.noted in
    record { within = search rules; beneath = now.beneath; reads = now.reads; writes = now.writes }

pub invariant_of-self-in-Stream : goal.invariant_of-self-in-Stream
invariant_of-self-in-Stream g c =
    let file = c.args.self.now in
    let was : IsBeneath file.input file.output file.history.events (g.H.Host.files file.files) =
    record { beneath = file.beneath; reads = file.reads; writes = file.writes } in
    let now = output-called file.input file.output file.history.events c.dropped.new.self.events dropped
    (g.H.Host.files file.files) (g.H.Host.files file.files) (λ i o. (refl, refl, refl)) was
    (λ is. absurd (let no = c.in-Stream.is in cc)) (λ is. refl) c.dropped.ensures.noted in
    record { within = search rules; beneath = now.beneath; reads = now.reads; writes = now.writes }
