use Rattle.teco_paths.proofs.Prelude.{All}
use Rattle.teco_paths.specs.Meaning.{IsMadeOf}
use Rattle.teco_paths.proofs.translated.cuts_at.Given as goal

-- those so far are made of the claims
abbrev pub invariant-loop-stand : goal.invariant-loop-stand
invariant-loop-stand l = All (IsMadeOf l.nodes l.cut) l.cuts.items
