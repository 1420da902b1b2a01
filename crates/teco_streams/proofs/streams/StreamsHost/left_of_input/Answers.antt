use Rattle.std.proofs.Common.{refl, rules}
use Rattle.teco_streams.proofs.Calls.{IsBeneath, input-called}
use Rattle.teco_hosts.specs.Events.{measured}
use Rattle.teco_streams.proofs.streams.StreamsHost.left_of_input.Goals as goal

pub invariant_of-self-2 : goal.invariant_of-self-2
invariant_of-self-2 g c =
    let file = c.args.self.now in
    let was : IsBeneath file.input file.output file.history.events (g.H.Host.files file.files) =
    record { beneath = file.beneath; reads = file.reads; writes = file.writes } in
    let now = input-called file.input file.output file.history.events c.measured.new.self.events
    (measured c.in_ok-left-in-File.left) (g.H.Host.files file.files) (g.H.Host.files c.left_of_input.new.self)
    (λ i o. (refl, refl, refl)) was
    (λ is. c.in_ok-left-in-File.ensures.noted) (λ is. absurd (let no = c.in-File.is in cc)) c.measured.ensures.noted in
    record { within = search rules; beneath = now.beneath; reads = now.reads; writes = now.writes }
