use Rattle.teco_apply.proofs.Prelude.{◌≡◌, PagesGathered, PromisedCall, TouchesByParts, Joined}
use Rattle.teco_apply.proofs.by_pages.gather.Given as goal

-- as many pages as turns were read, and the host has not failed
abbrev pub invariant-loop : goal.invariant-loop
invariant-loop g l = record {
  gathered : Joined (λ old new. PagesGathered old (g.H.Host.failures l.fn.host) (g.W.Write.contents l.fn.writer)
      l.counter new (g.H.Host.failures l.host) (g.W.Write.contents l.writer)) l.fn.machine l.machine
      (g.H.Host.files l.fn.host) (g.H.Host.files l.host);
  touched : (call : PromisedCall) → TouchesByParts call l.fn.machine l.machine (g.H.Host.files l.fn.host)
      (g.H.Host.files l.host);
  failures : g.H.Host.failures l.host ≡ g.H.Host.failures l.fn.host;
}
