use Rattle.std.proofs.Common.{◌≡◌, drop}
use Rattle.teco_stack.proofs.stack.SharedStack.packed.Given as goal

-- the items from this one on are stacked
abbrev pub invariant-loop-at : goal.invariant-loop-at
invariant-loop-at g l = l.stack ≡ drop l.at l.items.items
