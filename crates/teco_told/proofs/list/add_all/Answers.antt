use Rattle.std.proofs.Common.{rules, sym, ◌∙◌}
use Rattle.std.proofs.lemmas.Iterator.Adapters.{YieldsList-from_vec}
use Rattle.std.proofs.lemmas.Iterator.Consumers.{YieldsList-end}
use Rattle.std.proofs.lemmas.List.{map-id}
use Rattle.std.proofs.lemmas.List.Elements.{All-push, All-same}
use Rattle.std.specs.Prelude.{Contains}
use Rattle.teco_told.proofs.Grown.{all_later, grows_on}
use Rattle.teco_told.proofs.list.add_all.Goals as goal

pub loop-change-preserved : goal.loop-change-preserved
loop-change-preserved c = record {
  grows = grows_on c.args.changes.now.items c.loop-change.changes.items c.add.new.changes.items
      c.loop-change.invariant.grows c.in_ok-add.ensures.grows;
  has = All-push (Contains c.add.new.changes.items) c.loop-change.yielded c.in-Some.change
      (all_later c.loop-change.yielded c.loop-change.changes.items c.add.new.changes.items c.in_ok-add.ensures.grows
      c.loop-change.invariant.has) c.in_ok-add.ensures.has;
}

pub returns-in_err-add-clause-grows : goal.returns-in_err-add-clause-grows
returns-in_err-add-clause-grows c =
    grows_on c.args.changes.now.items c.loop-change.changes.items c.add.new.changes.items
    c.loop-change.invariant.grows c.in_err-add.ensures.grows

pub returns-clause-has : goal.returns-clause-has
returns-clause-has c =
    let each = YieldsList-from_vec {s = c.into_iter-change-iterator.result} c.args.told.items (search rules)
    (search rules) in
    let end = YieldsList-end each c.loop-change.yielded _ c.loop-change.yielded_by _ c.next.new.self c.in-None.is
    c.next.ensures.steps in
    All-same (Contains c.loop-change.changes.items) c.args.told.items c.loop-change.yielded
    (sym end.0 ∙ map-id c.loop-change.yielded) c.loop-change.invariant.has
