use Rattle.teco_paths.proofs.Prelude.{subst, option_map, OnOk, IsCertain, List, CutState}
use Rattle.teco_paths.specs.Sure.{RunBounds}
use Rattle.teco_paths.proofs.claimed.check_prepared.Goals as goal

pub returns : goal.returns
returns c =
    let called = c.args.called.now in
    let prepared = c.args.prepared.now in
    let Goes = λ (bounds : RunBounds) (cuts : List CutState).
    OnOk c.check_claims.result
    (IsCertain called.nodes.now called.lengths.now called.argument called.needs bounds cuts) in
    subst (λ types. Goes (record {
      commands = prepared.commands.items;
      size = prepared.size.items;
      grows = option_map (λ t. t.items) prepared.grows;
      types = types;
    }) prepared.cuts.items) c.lent-2.ensures
    (subst (λ grows. Goes (record {
      commands = prepared.commands.items;
      size = prepared.size.items;
      grows = grows;
      types = option_map (λ t. t.now) c.lent-2.result;
    }) prepared.cuts.items) c.lent.ensures
    (subst (λ size. Goes (record {
      commands = prepared.commands.items;
      size = size;
      grows = option_map (λ t. t.now) c.lent.result;
      types = option_map (λ t. t.now) c.lent-2.result;
    }) prepared.cuts.items) c.deref-4.ensures.value
    (subst (λ commands. Goes (record {
      commands = commands;
      size = c.deref-4.result.now;
      grows = option_map (λ t. t.now) c.lent.result;
      types = option_map (λ t. t.now) c.lent-2.result;
    }) prepared.cuts.items) c.deref-3.ensures.value
    (subst (λ cuts. Goes (record {
      commands = c.deref-3.result.now;
      size = c.deref-4.result.now;
      grows = option_map (λ t. t.now) c.lent.result;
      types = option_map (λ t. t.now) c.lent-2.result;
    }) cuts) c.deref-2.ensures.value
    c.check_claims.ensures))))
