use Rattle.std.proofs.Common.{◌≡◌, take}
use Rattle.teco_regs.specs.Texts.{handed, owned}
use Rattle.teco_regs.proofs.regs.copies_of.Given as goal

abbrev pub invariant-loop-text : goal.invariant-loop-text
invariant-loop-text l = owned l.copies.items ≡ handed (take l.text-index l.texts)
