use Rattle.teco_check.proofs.Prelude.{◌≡◌, drop, length, REGISTERS}
use Rattle.teco_verifier.specs.table.Deriving.{with_longer}
use Rattle.teco_check.proofs.chosen.with_longer.Given as goal

-- the changes before this one are made
abbrev pub invariant-loop-change : goal.invariant-loop-change
invariant-loop-change l =
    record {
      made : with_longer l.longer l.initial.with ≡ with_longer (drop l.change-index l.longer) l.with;
      long : length l.with ≡ REGISTERS;
    }
