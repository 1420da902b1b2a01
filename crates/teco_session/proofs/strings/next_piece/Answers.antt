use Rattle.teco_session.proofs.Prelude.{length, ap, arith, Consumes-nil}
use Rattle.teco_session.proofs.Pairs.{string_end-nil}
use Rattle.teco_session.proofs.strings.next_piece.Goals as goal

pub loop-limits-init : goal.loop-limits-init
loop-limits-init g c = record {
  came = rw c.clear.ensures.items (Consumes-nil _);
  endless = rw c.clear.ensures.items string_end-nil;
  within = omega (arith, ap length c.clear.ensures.items);
  one_read = λ h. h;
}
