use Rattle.teco_check.proofs.Prelude.{◌≡◌, ◌++◌, drop}
use Rattle.teco_verifier.specs.table.Loops as rules
use Rattle.teco_check.proofs.loops.longer_texts.Given as goal

abbrev pub invariant-loop-place : goal.invariant-loop-place
invariant-loop-place l =
    l.longer.items ++ rules.longer_from l.place (drop l.place l.before) (drop l.place l.chosen)
    ≡ rules.longer_from 0 l.before l.chosen
