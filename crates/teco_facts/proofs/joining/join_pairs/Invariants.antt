use Rattle.teco_facts.proofs.Prelude.{◌≡◌, ◌≤◌, ◌++◌, length, take, joined_pushes}
use Rattle.teco_facts.proofs.Pairs.{behind}
use Rattle.teco_facts.proofs.joining.join_pairs.Given as goal

-- all pairs are joined if those from here on are; behind the last that is changed they are those of the first way
abbrev pub invariant-loop-of_one : goal.invariant-loop-of_one
invariant-loop-of_one l = record {
  joined : joined_pushes l.first l.second ≡ behind l.pairs.items (joined_pushes l.one l.two);
  shared : l.pairs.items ++ l.one ≡ take l.changed l.pairs.items ++ l.shared;
  within : l.changed ≤ length l.pairs.items;
}
