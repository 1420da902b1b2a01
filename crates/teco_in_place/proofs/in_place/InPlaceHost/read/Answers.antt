use Rattle.teco_in_place.proofs.Calls.{read-called}
use Rattle.teco_in_place.proofs.in_place.InPlaceHost.read.Goals as goal

pub invariant_of-self-2 : goal.invariant_of-self-2
invariant_of-self-2 g c =
    let file = c.args.self.now in
    let now = read-called g.E.Ending.replaces file.history.events c.gave.new.self.events c.in_ok-n.n c.read.new.buf
    file.is_begun (g.H.Host.files file.host) (g.H.Host.files c.read.new.self)
    file.beneath file.one c.in_ok-n.ensures.noted c.gave.ensures.noted in
    record { beneath = now.0; one = now.1 }
