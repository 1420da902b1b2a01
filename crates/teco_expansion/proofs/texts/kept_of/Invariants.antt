use Rattle.teco_expansion.proofs.Prelude.{map, All, option_copied, IsKeptOf}
use Rattle.teco_expansion.proofs.texts.kept_of.Given as goal

abbrev pub invariant-loop-register : goal.invariant-loop-register
invariant-loop-register l = All (IsKeptOf (map option_copied l.texts)) l.kept.items
