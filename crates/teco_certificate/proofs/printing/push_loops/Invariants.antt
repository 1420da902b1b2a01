use Rattle.teco_certificate.proofs.Prelude.{◌≡◌, ◌++◌, take, flat_map, AllByRecursion, loop_line, IsChosen}
use Rattle.teco_certificate.proofs.printing.push_loops.Given as goal

-- what is added so far is of the loops so far
abbrev pub invariant-loop-line : goal.invariant-loop-line
invariant-loop-line l = record {
  text : l.text.items ≡ l.fn.text.items ++ flat_map loop_line (take l.line-index l.loops);
  parts : AllByRecursion IsChosen (take l.line-index l.loops);
}
