use Rattle.teco_claims.proofs.Prelude.{◌≡◌, ◌++◌, take, flat_map, cut_text}
use Rattle.teco_claims.proofs.printing.push_cuts.Given as goal

-- what is added so far is of those so far
abbrev pub invariant-loop-cut : goal.invariant-loop-cut
invariant-loop-cut l = l.text.items ≡ l.fn.text.items ++ flat_map cut_text (take l.cut-index l.cuts)
