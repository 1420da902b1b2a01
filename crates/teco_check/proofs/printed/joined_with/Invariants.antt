use Rattle.teco_check.proofs.Prelude.{◌≡◌, drop}
use Rattle.teco_verifier.specs.table.Printed.{joined_with}
use Rattle.teco_check.proofs.printed.joined_with.Given as goal

-- the texts before this one are joined
abbrev pub invariant-loop-text : goal.invariant-loop-text
invariant-loop-text l = joined_with l.texts l.fn.most ≡ joined_with (drop l.text-index l.texts) l.joined
