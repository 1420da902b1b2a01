use Rattle.std.proofs.Common.{true, refl}
use Rattle.teco_in_place.proofs.Calls.{called}
use Rattle.teco_hosts.specs.Events.{opened_output}
use Rattle.teco_in_place.proofs.in_place.InPlaceHost.open_out.Goals as goal

pub invariant_of-self-2 : goal.invariant_of-self-2
invariant_of-self-2 g c =
    let file = c.args.self.now in
    let now = called g.E.Ending.replaces file.history.events c.opened_output.new.self.events
    (opened_output c.args.name.now) file.is_begun true (g.H.Host.files file.host)
    (g.H.Host.files c.open_out.new.self)
    file.beneath file.one (rw c.in-Some.ensures c.in_ok-open_out.ensures.noted)
    (rw c.in-Some.ensures refl) c.opened_output.ensures.noted in
    record { beneath = now.0; one = now.1 }
