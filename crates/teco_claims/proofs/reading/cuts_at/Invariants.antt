use Rattle.teco_claims.proofs.Prelude.{◌≡◌, ◌++◌, List, length, flat_map, AllByRecursion, codes, IsCut, line, cut_words}
use Rattle.teco_claims.proofs.Prelude.{cut_text, AtCut}
use Rattle.teco_poly.proofs.Items.{AreLeft}
use Rattle.teco_claims.proofs.reading.cuts_at.Given as goal

-- of whatever cut points there are, those that are read and those that are left are all
abbrev pub invariant-loop-words : goal.invariant-loop-words
invariant-loop-words l = record {
  are : AllByRecursion IsCut l.cuts.items;
  left : (cs : List AtCut) → AllByRecursion IsCut cs → l.fn.text ≡ flat_map cut_text cs ++ line (codes "end")
      → AreLeft (codes "cut ") cut_words IsCut (line (codes "end")) cs l.cuts.items l.rest;
}

abbrev pub decreases-loop-words : goal.decreases-loop-words
decreases-loop-words l = length l.rest
