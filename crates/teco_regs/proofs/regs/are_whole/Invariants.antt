use Rattle.std.proofs.Common.{take}
use Rattle.std.specs.List.{AllByRecursion}
use Rattle.teco_model.specs.laws.Whole.{IsWholePair}
use Rattle.teco_regs.proofs.regs.are_whole.Given as goal

abbrev pub invariant-loop-pair : goal.invariant-loop-pair
invariant-loop-pair l = AllByRecursion IsWholePair (take l.pair-index l.pairs)
