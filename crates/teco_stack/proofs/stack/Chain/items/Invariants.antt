use Rattle.std.proofs.Common.{◌≡◌, ◌++◌}
use Rattle.teco_stack.proofs.stack.Chain.items.Given as goal

-- those that are put already, and behind them the rest
abbrev pub invariant-loop-item : goal.invariant-loop-item
invariant-loop-item g l = l.items.items ++ l.rest ≡ l.self
