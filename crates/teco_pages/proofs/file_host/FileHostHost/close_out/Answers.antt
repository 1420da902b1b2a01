use Rattle.std.proofs.Common.{◌∙◌, ap}
use Rattle.teco_hosts.specs.declared.history.History.{History}
use Rattle.teco_pages.proofs.Following.{still_closed, still_dropped}
use Rattle.teco_pages.proofs.file_host.FileHostHost.close_out.Goals as goal

pub invariant_of-self-in-Ok-clause-noted : goal.invariant_of-self-in-Ok-clause-noted
invariant_of-self-in-Ok-clause-noted g c =
    still_closed c.args.self.now.calls.history.events c.closed.new.self.events c.args.self.now.texts
    c.closed.ensures.noted c.args.self.now.noted

pub invariant_of-self-in-Err-clause-noted : goal.invariant_of-self-in-Err-clause-noted
invariant_of-self-in-Err-clause-noted g c =
    still_dropped c.args.self.now.calls.history.events c.cannot_use.new.self.history.events c.args.self.now.texts
    (ap (λ (h : History). h.events) c.cannot_use.ensures.history ∙ c.dropped.ensures.noted) c.args.self.now.noted
