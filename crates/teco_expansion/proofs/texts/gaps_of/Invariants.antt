use Rattle.teco_expansion.proofs.Prelude.{map, All, option_copied, IsGapOf}
use Rattle.teco_expansion.proofs.texts.gaps_of.Given as goal

abbrev pub invariant-loop-register : goal.invariant-loop-register
invariant-loop-register l = All (IsGapOf (map option_copied l.texts)) l.gaps.items
