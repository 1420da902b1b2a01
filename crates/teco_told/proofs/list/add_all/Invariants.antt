use Rattle.std.specs.Prelude.{All, Contains}
use Rattle.teco_told.specs.Growing.{Grows}
use Rattle.teco_told.proofs.list.add_all.Given as goal

abbrev pub invariant-loop-change : goal.invariant-loop-change
invariant-loop-change l = record {
  grows : Grows l.fn.changes.items l.changes.items;
  has : All (Contains l.changes.items) l.yielded;
}
