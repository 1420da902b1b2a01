use Rattle.teco_apply.proofs.Prelude.{◌≡◌, PagesTurned, order_by, TouchesByParts, Joined}
use Rattle.teco_apply.proofs.by_pages.edit_each.Given as goal

-- as many pages as turns were edited, and the host has not failed
abbrev pub invariant-loop : goal.invariant-loop
invariant-loop g l = record {
  turned : Joined (λ old new. PagesTurned (order_by (g.G.Guard.answers l.order.guard.now) l.order.call.now) old
      (g.H.Host.failures l.fn.host) (g.W.Write.contents l.fn.writer)
      l.done new (g.H.Host.failures l.host) (g.W.Write.contents l.writer)) l.fn.machine l.machine
      (g.H.Host.files l.fn.host) (g.H.Host.files l.host);
  touched : TouchesByParts l.order.call.now l.fn.machine l.machine (g.H.Host.files l.fn.host) (g.H.Host.files l.host);
  failures : g.H.Host.failures l.host ≡ g.H.Host.failures l.fn.host;
  pages : l.done.pages ≡ l.counter;
}
