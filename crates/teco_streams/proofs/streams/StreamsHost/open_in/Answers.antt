use Rattle.std.proofs.Common.{refl, rules}
use Rattle.teco_streams.proofs.Calls.{IsBeneath, input-opened, named-file, named-stream}
use Rattle.teco_streams.specs.Streams.{input_name}
use Rattle.teco_streams.specs.declared.streams.Open.TheVariants.{File, Stream}
use Rattle.teco_streams.proofs.streams.StreamsHost.open_in.Goals as goal

pub invariant_of-self : goal.invariant_of-self
invariant_of-self g c =
    let file = c.args.self.now in
    let was : IsBeneath file.input file.output file.history.events (g.H.Host.files file.files) =
    record { beneath = file.beneath; reads = file.reads; writes = file.writes } in
    let now = input-opened file.input file.output Stream file.history.events c.opened_input.new.self.events
    c.args.name.now (g.H.Host.files file.files) (g.H.Host.files file.files)
    (named-stream input_name c.args.name.now (search rules)) was
    (λ is. absurd (cc)) (λ is. refl) c.opened_input.ensures.noted in
    record { within = search rules; beneath = now.beneath; reads = now.reads; writes = now.writes }

pub invariant_of-self-2 : goal.invariant_of-self-2
invariant_of-self-2 g c =
    let file = c.args.self.now in
    let was : IsBeneath file.input file.output file.history.events (g.H.Host.files file.files) =
    record { beneath = file.beneath; reads = file.reads; writes = file.writes } in
    let now = input-opened file.input file.output File file.history.events c.opened_input-2.new.self.events
    c.args.name.now (g.H.Host.files file.files) (g.H.Host.files c.open_in.new.self)
    (named-file input_name c.args.name.now (search rules)) was
    (λ is. c.in_ok-open_in.ensures.noted) (λ is. absurd (cc)) c.opened_input-2.ensures.noted in
    record { within = search rules; beneath = now.beneath; reads = now.reads; writes = now.writes }
