use Rattle.std.proofs.Common.{◌≡◌, drop}
use Rattle.teco_change_policies.specs.Simple.{reads_on}
use Rattle.teco_change_policies.specs.declared.simple.Mark.TheVariants.{Nothing}
use Rattle.teco_change_policies.proofs.simple.is_simple.Given as goal

-- the rest can be read on if the text can be read
abbrev pub invariant-loop-b : goal.invariant-loop-b
invariant-loop-b l = reads_on l.mark (drop l.b-index l.text) ≡ reads_on Nothing l.text
