use Rattle.std.proofs.Common.{refl}
use Rattle.teco_in_place.proofs.Calls.{called}
use Rattle.teco_hosts.specs.Events.{measured}
use Rattle.teco_in_place.proofs.in_place.InPlaceHost.left_of_input.Goals as goal

pub invariant_of-self-2 : goal.invariant_of-self-2
invariant_of-self-2 g c =
    let file = c.args.self.now in
    let now = called g.E.Ending.replaces file.history.events c.measured.new.self.events
    (measured c.in_ok-left.left) file.is_begun file.is_begun (g.H.Host.files file.host)
    (g.H.Host.files c.left_of_input.new.self)
    file.beneath file.one c.in_ok-left.ensures.noted refl c.measured.ensures.noted in
    record { beneath = now.0; one = now.1 }
