use Rattle.teco_verify.proofs.Prelude.{◌≡◌, length, REGISTERS}
use Rattle.teco_verify.proofs.memo.BodyText.renewed.Given as goal

abbrev pub invariant-loop-register : goal.invariant-loop-register
invariant-loop-register l = length l.texts ≡ REGISTERS
