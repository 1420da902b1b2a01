use Rattle.std.proofs.Common.{refl, rules}
use Rattle.teco_streams.proofs.Calls.{IsBeneath, named-file, named-stream, output-opened}
use Rattle.teco_streams.specs.Streams.{output_name}
use Rattle.teco_streams.specs.declared.streams.Open.TheVariants.{File, Stream}
use Rattle.teco_streams.proofs.streams.StreamsHost.open_out.Goals as goal

pub invariant_of-self : goal.invariant_of-self
invariant_of-self g c =
    let file = c.args.self.now in
    let was : IsBeneath file.input file.output file.history.events (g.H.Host.files file.files) =
    record { beneath = file.beneath; reads = file.reads; writes = file.writes } in
    let now = output-opened file.input file.output Stream file.history.events c.opened_output.new.self.events
    c.args.name.now (g.H.Host.files file.files) (g.H.Host.files file.files)
    (named-stream output_name c.args.name.now (search rules)) was
    (λ is. absurd (cc)) (λ is. refl) c.opened_output.ensures.noted in
    record { within = search rules; beneath = now.beneath; reads = now.reads; writes = now.writes }

pub invariant_of-self-2 : goal.invariant_of-self-2
invariant_of-self-2 g c =
    let file = c.args.self.now in
    let was : IsBeneath file.input file.output file.history.events (g.H.Host.files file.files) =
    record { beneath = file.beneath; reads = file.reads; writes = file.writes } in
    let now = output-opened file.input file.output File file.history.events c.opened_output-2.new.self.events
    c.args.name.now (g.H.Host.files file.files) (g.H.Host.files c.open_out.new.self)
    (named-file output_name c.args.name.now (search rules)) was
    (λ is. c.in_ok-open_out.ensures.noted) (λ is. absurd (cc)) c.opened_output-2.ensures.noted in
    record { within = search rules; beneath = now.beneath; reads = now.reads; writes = now.writes }
