use Rattle.std.proofs.Common.{subst}
use Rattle.std.specs.Prelude.{All}
use Rattle.teco_change_policies.specs.Laws.{TakesOnly}
use Rattle.teco_change_policies.proofs.facts.takes_only.Goals as goal

pub returns : goal.returns
returns c =
    c.only_these_are_taken.ensures c.in_ok-characters.characters c.args.changes.now
    (subst (λ l. All (TakesOnly l) c.args.changes.now) c.as_slice.ensures.value
    (c.is_each.ensures c.if-not-is_each.false))
