use Rattle.teco_paths.proofs.Meant.{AreMade}
use Rattle.teco_paths.proofs.translated.cuts_of.Given as goal

-- those so far are made of claims, and there is one for each of them before this one
abbrev pub invariant-loop-cut : goal.invariant-loop-cut
invariant-loop-cut l = AreMade l.nodes l.claimed.cuts l.cut-index l.cuts.items
