use Rattle.std.proofs.Common.{List, ℕ, ◌++◌, length}
use Rattle.teco_parameters.specs.Spelling.{Spells}
use Rattle.teco_parameters.proofs.spelling.spelled.Given as goal

-- the text spells the bytes so far, and behind them what the rest spells
abbrev pub invariant-loop-rest : goal.invariant-loop-rest
invariant-loop-rest l = (more : List ℕ) → Spells l.rest more → Spells l.fn.text (l.bytes.items ++ more)

abbrev pub decreases-loop-rest : goal.decreases-loop-rest
decreases-loop-rest l = length l.rest
