use Rattle.teco_paths.proofs.Prelude.{IsEntryClaim}
use Rattle.teco_paths.proofs.Beginning.{most_held_claim, no_less_held, no_more_held, steps_between, typed_between}
use Rattle.teco_paths.proofs.Lists.{all_last}
use Rattle.teco_paths.proofs.entry.entry_claims.Goals as goal

pub returns : goal.returns
returns c =
    let lengths = c.args.lengths.now in
    let argument = c.args.argument in
    let steps = c.in_ok-add_between.ensures lengths argument
    (steps_between lengths argument c.steps_done-done.result c.steps_done-done.ensures)
    (c.in_ok-claims.ensures argument) in
    let typed = c.in_ok-add_between-2.ensures lengths argument (typed_between lengths argument) steps in
    let above =
    all_last (IsEntryClaim lengths argument) c.add_between-2.new.claims.items c.push.new.self.items
    c.in_ok-no_less_than.field-0 c.in_ok-push.ensures.items typed
    (no_less_held lengths argument c.in_ok-no_less_than.field-0 c.in_ok-no_less_than.ensures) in
    let below =
    all_last (IsEntryClaim lengths argument) c.push.new.self.items c.push-2.new.self.items
    c.in_ok-no_less_than-2.field-0 c.in_ok-push-2.ensures.items above
    (no_more_held lengths argument c.in_ok-no_less_than-2.field-0 c.in_ok-no_less_than-2.ensures) in
    c.in_ok-add_range.ensures lengths
    (all_last (IsEntryClaim lengths argument) c.push-2.new.self.items c.push-3.new.self.items
    c.in_ok-most_in_all.field-0 c.in_ok-push-3.ensures.items below
    (most_held_claim lengths argument c.in_ok-most_in_all.field-0 c.args.used.now c.in_ok-most_in_all.ensures))
