use Rattle.teco_hosts.proofs.Prelude.{◌≡◌, ◌≤◌, [], Bool, length, take, Becomes, after_writing, Touches}
use Rattle.teco_hosts.proofs.write.write_all.Given as goal

-- each turn writes a byte or more, from the front on; nothing has failed
abbrev pub invariant-loop : goal.invariant-loop
invariant-loop g l = record {
  within : l.written ≤ length l.bytes;
  count : l.counter ≤ l.written;
  written : Becomes (after_writing (take l.written l.bytes)) (g.H.Host.files l.initial.host) (g.H.Host.files l.host);
  same : g.H.Host.failures l.host ≡ g.H.Host.failures l.initial.host;
  given : g.H.Host.given l.host ≡ g.H.Host.given l.initial.host;
  noted : (end : Bool) → Touches [] end end (g.H.Host.files l.initial.host) (g.H.Host.files l.host);
}
