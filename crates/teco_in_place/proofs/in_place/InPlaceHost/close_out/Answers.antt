use Rattle.teco_in_place.proofs.Calls.{close-called, failed-called}
use Rattle.teco_in_place.proofs.in_place.InPlaceHost.close_out.Goals as goal

pub invariant_of-self : goal.invariant_of-self
invariant_of-self g c =
    let file = c.args.self.now in
    let now = close-called g.E.Ending.replaces file.history.events c.closed.new.self.events file.is_begun
    (g.H.Host.files file.host) (g.H.Host.files c.end-ended.new.host) c.end-ended.result c.in-Ok.is
    file.beneath file.one (rw c.replaces.ensures at c.end-ended.ensures.noted) c.closed.ensures.noted in
    record { beneath = now.0; one = now.1 }

pub invariant_of-self-in-Err : goal.invariant_of-self-in-Err
invariant_of-self-in-Err g c =
    let file = c.args.self.now in
    let now = failed-called g.E.Ending.replaces file.history.events c.dropped.new.self.events file.is_begun
    (g.H.Host.files file.host) (g.H.Host.files c.end-ended.new.host) c.end-ended.result c.in-Err.field-0 c.in-Err.is
    file.beneath file.one (rw c.replaces.ensures at c.end-ended.ensures.noted) c.dropped.ensures.noted in
    record { beneath = now.0; one = now.1 }
