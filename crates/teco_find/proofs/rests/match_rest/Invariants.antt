use Rattle.teco_find.proofs.Prelude.{◌≡◌, ◌≤◌, length, drop, joined}
use Rattle.teco_model.specs.Match as model
use Rattle.teco_find.proofs.rests.match_rest.Given as goal

-- the elements that are left leave what all of them do
abbrev pub invariant-loop-item : goal.invariant-loop-item
invariant-loop-item l = record {
  within : length (joined l.rest) ≤ length (joined l.text);
  rests : model.match_rest (drop l.item-index l.items) (joined l.rest) ≡ model.match_rest l.items (joined l.text);
}
