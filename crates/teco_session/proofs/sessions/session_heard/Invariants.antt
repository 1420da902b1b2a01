use Rattle.teco_session.proofs.Prelude.{◌≡◌, ◌≤◌, length, true, false, prepend_known, Joined, Serves, setting, CHUNK}
use Rattle.teco_session.proofs.Counting.{RisesCoded}
use Rattle.teco_session.proofs.Touching.{TouchesSoFar}
use Rattle.teco_session.proofs.sessions.session_heard.Given as goal

-- As many strings as turns were served, and one read's bytes at most are ahead. The strings touched files by the
-- definition. The host's count of failures rose only where a code came. Where the first code ends the session none
-- came.
abbrev pub invariant-loop : goal.invariant-loop
invariant-loop g l = record {
  served : Joined (λ old new. Serves l.conduct.limits l.counter
      (setting old (g.H.Host.failures l.fn.host) (g.R.Read.remaining l.fn.reader) (g.W.Write.contents l.fn.writer))
      (setting new (g.H.Host.failures l.host) (prepend_known l.ahead (g.R.Read.remaining l.reader))
      (g.W.Write.contents l.writer))
      l.coded) l.fn.machine l.machine (g.H.Host.files l.fn.host) (g.H.Host.files l.host);
  touched : TouchesSoFar l.conduct.limits (g.R.Read.remaining l.fn.reader)
      (prepend_known l.ahead (g.R.Read.remaining l.reader))
      l.fn.machine l.machine (g.H.Host.files l.fn.host) (g.H.Host.files l.host);
  counted : RisesCoded l.coded (g.H.Host.failures l.fn.host) (g.H.Host.failures l.host);
  one_read : length l.ahead ≤ CHUNK;
  plain : l.conduct.until_code ≡ true → l.coded ≡ false;
}
