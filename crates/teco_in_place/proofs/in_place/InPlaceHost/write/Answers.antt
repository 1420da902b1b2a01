use Rattle.std.proofs.Common.{take, refl}
use Rattle.teco_in_place.proofs.Calls.{called}
use Rattle.teco_hosts.specs.Events.{wrote}
use Rattle.teco_in_place.proofs.in_place.InPlaceHost.write.Goals as goal

pub invariant_of-self-2 : goal.invariant_of-self-2
invariant_of-self-2 g c =
    let file = c.args.self.now in
    let now = called g.E.Ending.replaces file.history.events c.wrote.new.self.events
    (wrote (take c.in_ok-n.n c.args.bytes.now)) file.is_begun file.is_begun (g.H.Host.files file.host)
    (g.H.Host.files c.write.new.self)
    file.beneath file.one c.in_ok-n.ensures.noted refl c.wrote.ensures.noted in
    record { beneath = now.0; one = now.1 }
