-- Policies that are asked for, and others behind them.
use Rattle.std.proofs.Common.{◌≡◌, List, ◌++◌}
use Rattle.teco_applied.specs.Tasks.{AskFor}
use Rattle.teco_policy.specs.declared.policy.Policy.{Policy}

pub asks : (asked more all : List Policy) → all ≡ asked ++ more → AskFor asked all
asks asked more all is = (more, is)
