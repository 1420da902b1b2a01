use Rattle.teco_expansion.proofs.Prelude.{◌≡◌, drop, is_open, listed}
use Rattle.teco_expansion.proofs.steps.is_open.Given as goal

abbrev pub invariant-loop-at : goal.invariant-loop-at
invariant-loop-at l =
    is_open l.register (listed l.registers) ≡ is_open l.register (drop l.at (listed l.registers))
