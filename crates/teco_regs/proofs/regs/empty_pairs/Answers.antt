use Rattle.std.proofs.Common.{rules}
use Rattle.teco_model.specs.Registers.{empty_pair, empty_pairs}
use Rattle.teco_regs.proofs.Made.{made_same}
use Rattle.teco_regs.proofs.regs.empty_pairs.Goals as goal

pub returns : goal.returns
unfolding empty_pairs
returns c = made_same _ empty_pair (λ i p q y called. search rules) _ _ _ c.from_fn.ensures.items
