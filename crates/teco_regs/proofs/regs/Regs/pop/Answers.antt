use Rattle.teco_regs.proofs.Whole.{whole_popped}
use Rattle.teco_regs.proofs.regs.Regs.pop.Goals as goal

pub invariant_of-self-2 : goal.invariant_of-self-2
invariant_of-self-2 c = whole_popped _ _ _ _ _ c.self.invariant c.in-Some.ensures.items
