use Rattle.teco_apply.proofs.Prelude.{◌≡◌, take}
use Rattle.arrayvec.specs.ArrayVec.{array_vec_len}
use Rattle.teco_apply.proofs.run.call_text.Given as goal

abbrev pub invariant-loop-digit : goal.invariant-loop-digit
invariant-loop-digit l = record {
  items : l.text.items ≡ take l.digit-index l.digit-items;
  count : array_vec_len l.text ≡ l.digit-index;
}
