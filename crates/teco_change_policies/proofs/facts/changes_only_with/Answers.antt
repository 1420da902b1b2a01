use Rattle.std.proofs.Common.{rules, sym, subst, ◌≡◌}
use Rattle.teco_change_policies.specs.Laws.{AlwaysKeep, others}
use Rattle.teco_change_policies.proofs.facts.changes_only_with.Goals as goal

pub returns : goal.returns
returns c =
    let wanted = c.as_slice-wanted.result.now in
    let same : c.extend_from_slice.new.self.items ≡ wanted = search rules in
    subst (λ l. AlwaysKeep c.args.changes.now (others l)) (sym same)
    (c.keeps_others.ensures c.if-not-keeps_others.false)
