use Rattle.teco_session.proofs.Prelude.{◌≡◌, ◌-◌, ◌≤◌, length, None, Consumes, prepend_known, string_end, CHUNK}
use Rattle.teco_session.proofs.strings.next_piece.Given as goal

-- the string's bytes came from the input, and hold no end
abbrev pub invariant-loop-limits : goal.invariant-loop-limits
invariant-loop-limits g l = record {
  came : Consumes (prepend_known l.fn.ahead (g.R.Read.remaining l.fn.reader))
      (prepend_known l.ahead (g.R.Read.remaining l.reader)) l.string.items;
  endless : string_end l.string.items ≡ None;
  within : length l.string.items ≤ l.limits.length;
  one_read : length l.fn.ahead ≤ CHUNK → length l.ahead ≤ CHUNK;
}

-- how many more bytes the string may take
abbrev pub decreases-loop-limits : goal.decreases-loop-limits
decreases-loop-limits g l = l.limits.length - length l.string.items
