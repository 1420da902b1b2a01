use Rattle.std.proofs.Common.{◌≡◌, length, take}
use Rattle.teco_regs.proofs.OwnTexts.{with_own_texts}
use Rattle.teco_regs.specs.Texts.{owned}
use Rattle.teco_regs.proofs.regs.put_texts.Given as goal

abbrev pub invariant-loop-i : goal.invariant-loop-i
invariant-loop-i l = l.pairs ≡ with_own_texts (owned (take (length l.yielded) l.fn.texts.items)) l.initial.pairs
