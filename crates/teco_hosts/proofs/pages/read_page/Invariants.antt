use Rattle.teco_hosts.proofs.Prelude.{◌≡◌, ◌≤◌, ◌++◌, [], false, length, LIMIT, has_form_feed, Touches, Shifts}
use Rattle.teco_hosts.proofs.pages.read_page.Given as goal

-- each turn gives a byte or more to the page; nothing is lost, and nothing has failed
abbrev pub invariant-loop : goal.invariant-loop
invariant-loop g l = record {
  plain : has_form_feed l.into.items ≡ false;
  short : length l.into.items ≤ LIMIT;
  count : l.counter ≤ length l.into.items;
  shifts : Shifts (l.fn.into.items ++ l.fn.ahead) (g.H.Host.files l.fn.host) (l.into.items ++ l.ahead)
      (g.H.Host.files l.host);
  noted : Touches [] false false (g.H.Host.files l.fn.host) (g.H.Host.files l.host);
  same : g.H.Host.failures l.host ≡ g.H.Host.failures l.fn.host;
}
