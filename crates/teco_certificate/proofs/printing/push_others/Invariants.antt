use Rattle.teco_certificate.proofs.Prelude.{◌≡◌, ◌++◌, take, flat_map, AllByRecursion, behind_comma, IsLongerText}
use Rattle.teco_certificate.proofs.printing.push_others.Given as goal

-- what is added so far is of the texts so far
abbrev pub invariant-loop-longer : goal.invariant-loop-longer
invariant-loop-longer l = record {
  text : l.text.items ≡ l.fn.text.items ++ flat_map behind_comma (take l.longer-index l.others);
  parts : AllByRecursion IsLongerText (take l.longer-index l.others);
}
