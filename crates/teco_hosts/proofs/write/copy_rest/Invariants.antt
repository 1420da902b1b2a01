use Rattle.teco_hosts.proofs.Prelude.{◌≡◌, ◌≤◌, ◌<◌, [], false, LIMIT, CopiesOn, Touches}
use Rattle.teco_hosts.proofs.write.copy_rest.Given as goal

-- what is written, held and unread is what was unread; each turn was given a byte, and nothing has failed
abbrev pub invariant-loop : goal.invariant-loop
invariant-loop g l = record {
  copied : CopiesOn l.fn.ahead l.ahead (g.H.Host.files l.fn.host) (g.H.Host.files l.host);
  same : g.H.Host.failures l.host ≡ g.H.Host.failures l.fn.host;
  noted : Touches [] false false (g.H.Host.files l.fn.host) (g.H.Host.files l.host);
  count : l.counter ≤ g.H.Host.given l.host;
  limit : 0 < l.counter → g.H.Host.given l.host ≤ LIMIT;
}
