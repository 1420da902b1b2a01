use Rattle.std.proofs.Common.{◌≡◌, ◌≤◌, length}
use Rattle.teco_judging.proofs.judged.send.Given as goal

-- nothing has failed
abbrev pub invariant-loop : goal.invariant-loop
invariant-loop g l = record {
  within : l.written ≤ length l.bytes;
  same : g.H.Host.failures l.host ≡ g.H.Host.failures l.initial.host;
  given : g.H.Host.given l.host ≡ g.H.Host.given l.initial.host;
}
