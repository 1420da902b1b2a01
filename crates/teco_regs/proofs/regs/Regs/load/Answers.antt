use Rattle.std.proofs.Common.{rules}
use Rattle.teco_regs.proofs.Whole.{whole_loaded}
use Rattle.teco_regs.proofs.regs.Regs.load.Goals as goal

pub invariant_of-self : goal.invariant_of-self
invariant_of-self c = whole_loaded c.args.texts.now _ _ _ (search rules) (search rules) c.requires c.self.invariant
