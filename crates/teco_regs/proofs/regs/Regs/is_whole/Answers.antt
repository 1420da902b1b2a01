use Rattle.std.proofs.Common.{sym}
use Rattle.teco_model.specs.Registers.{IsWithinLimit}
use Rattle.teco_model.specs.laws.Whole.{IsWholePair}
use Rattle.teco_regs.proofs.Reversed.{All-from_reverse, each_reversed}
use Rattle.teco_regs.proofs.regs.Regs.is_whole.Goals as goal

pub are_whole-requires-2 : goal.are_whole-requires-2
are_whole-requires-2 c = rw c.deref.ensures.value
    (All-from_reverse IsWithinLimit c.self.inside.stack.items c.self.invariant.stack_within)

pub returns : goal.returns
returns c = rw (sym c.self.view_is) (record {
  count = c.self.invariant.count;
  pairs = c.are_whole.ensures;
  stack = each_reversed IsWholePair c.self.inside.stack.items (rw c.deref.ensures.value at c.are_whole-2.ensures);
})
