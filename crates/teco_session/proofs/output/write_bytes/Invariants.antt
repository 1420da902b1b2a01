use Rattle.teco_session.proofs.Prelude.{◌≤◌, length, take, Appends}
use Rattle.teco_session.proofs.output.write_bytes.Given as goal

-- the bytes up to here are written, one or more in each turn
abbrev pub invariant-loop : goal.invariant-loop
invariant-loop g l = record {
  within : l.written ≤ length l.bytes;
  count : l.counter ≤ l.written;
  appended : Appends (g.W.Write.contents l.initial.writer) (g.W.Write.contents l.writer) (take l.written l.bytes);
}
