use Rattle.std.proofs.Common.{◌≡◌, ◌+◌, rules, subst}
use Rattle.teco_law_changes.specs.Runs.{AreNear, IsAmong}
use Rattle.teco_law_changes.specs.Steps.{told_with}
use Rattle.teco_told.specs.Seen.{near_in, near_seen}
use Rattle.teco_told.specs.Table.{before_in}
use Rattle.teco_told.proofs.Telling.{one_more, tells_all}
use Rattle.teco_told.proofs.told.changes_of_macro.Goals as goal

pub loop-passed-preserved : goal.loop-passed-preserved
loop-passed-preserved c =
    let arguments = before_in c.in_ok-arguments.arguments.items in
    let near = near_in c.in_ok-near.near.items in
    let known : c.before-argument.result ≡ arguments (c.loop-passed.passed + 1) = search rules in
    let nearby : near_seen c.near_before-nearby.result ≡ near (c.loop-passed.passed + 1) = search rules in
    one_more c.args.nodes.now c.some_gives_first-ranged.result arguments near
    c.loop-passed.passed c.loop-passed.changes.items c.add_told.new.changes.items c.in_ok-add_told.ensures.grows
    c.loop-passed.invariant
    (λ node at. subst (λ k. IsAmong (told_with node.element c.some_gives_first-ranged.result k
    (near (c.loop-passed.passed + 1))) c.add_told.new.changes.items) known
    (subst (λ k. IsAmong (told_with node.element c.some_gives_first-ranged.result c.before-argument.result k)
    c.add_told.new.changes.items) nearby
    (subst (λ told. IsAmong told c.add_told.new.changes.items) (c.in_ok-told.ensures node at)
    (c.in_ok-add_told.ensures.told (search rules)))))

pub returns : goal.returns
returns c =
    let arguments = before_in c.in_ok-arguments.arguments.items in
    let near = near_in c.in_ok-near.near.items in
    let nearby : AreNear c.args.nodes.now arguments near =
    subst (λ items. AreNear c.args.nodes.now (before_in items) near) c.as_slice.ensures.value c.in_ok-near.ensures in
    tells_all c.args.nodes.now c.some_gives_first-ranged.result arguments near
    c.loop-passed.passed c.loop-passed.changes.items c.in_ok-arguments.ensures nearby
    c.some_gives_first-ranged.ensures c.loop-passed.invariant (search rules)
