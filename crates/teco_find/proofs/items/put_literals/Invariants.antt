use Rattle.teco_find.proofs.Prelude.{◌≡◌, ◌++◌, take}
use Rattle.teco_model.specs.Pattern.{literals}
use Rattle.teco_find.proofs.items.put_literals.Given as goal

abbrev pub invariant-loop-b : goal.invariant-loop-b
invariant-loop-b l = l.items.items ≡ l.initial.items.items ++ literals l.exact (take l.b-index l.text)
