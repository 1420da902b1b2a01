use Rattle.std.proofs.Common.{true, refl, sym, ◌∙◌}
use Rattle.teco_in_place.proofs.Calls.{called}
use Rattle.teco_hosts.specs.Events.{opened_input}
use Rattle.teco_in_place.proofs.in_place.InPlaceHost.open_in.Goals as goal

pub invariant_of-self-2 : goal.invariant_of-self-2
invariant_of-self-2 g c =
    let file = c.args.self.now in
    let now = called g.E.Ending.replaces file.history.events c.opened_input.new.self.events
    (opened_input c.args.name.now) file.is_begun true (g.H.Host.files file.host) (g.H.Host.files c.open_in.new.self)
    file.beneath file.one c.in_ok-open_in.ensures.noted
    (rw (c.if-self.false, sym c.is_new_text.ensures ∙ c.if-is_new_text.false) refl) c.opened_input.ensures.noted in
    record { beneath = now.0; one = now.1 }
