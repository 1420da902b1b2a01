use Rattle.teco_model.specs.Registers.{IsWithinLimit}
use Rattle.teco_regs.proofs.Reversed.{All-from_reverse}
use Rattle.teco_regs.proofs.regs.Regs.held.Goals as goal

pub held_in-requires-2 : goal.held_in-requires-2
held_in-requires-2 c = rw c.deref.ensures.value (All-from_reverse IsWithinLimit _ c.self.invariant.stack_within)
