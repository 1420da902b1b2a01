use Rattle.teco_find.proofs.Prelude.{◌≡◌, length, take, map, literal}
use Rattle.teco_find.proofs.needle.literals_of.Given as goal

-- the literals so far are the elements so far
abbrev pub invariant-loop-item : goal.invariant-loop-item
invariant-loop-item l = record {
  counted : length l.literals.items ≡ l.item-index;
  taken : map literal l.literals.items ≡ take l.item-index l.items;
}
