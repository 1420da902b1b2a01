use Rattle.teco_session.proofs.Prelude.{◌≡◌, length, Keeps}
use Rattle.teco_session.proofs.ahead.read_some.Given as goal

-- a read that is interrupted takes nothing
abbrev pub invariant-loop : goal.invariant-loop
invariant-loop g l = record {
  len : length l.chunk ≡ length l.initial.chunk;
  kept : Keeps (g.R.Read.remaining l.initial.reader) (g.R.Read.remaining l.reader);
}
