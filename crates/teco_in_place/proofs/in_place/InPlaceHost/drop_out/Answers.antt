use Rattle.std.proofs.Common.{refl}
use Rattle.teco_in_place.proofs.Calls.{called}
use Rattle.teco_hosts.specs.Events.{dropped}
use Rattle.teco_in_place.proofs.in_place.InPlaceHost.drop_out.Goals as goal

pub invariant_of-self : goal.invariant_of-self
invariant_of-self g c =
    let file = c.args.self.now in
    let now = called g.E.Ending.replaces file.history.events c.dropped.new.self.events dropped file.is_begun
    file.is_begun (g.H.Host.files file.host) (g.H.Host.files c.drop_out.new.self)
    file.beneath file.one c.drop_out.ensures.noted refl c.dropped.ensures.noted in
    record { beneath = now.0; one = now.1 }
