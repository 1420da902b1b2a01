use Rattle.std.proofs.Common.{sym, subst}
use Rattle.std.specs.Prelude.{All}
use Rattle.teco_change_policies.specs.Laws.{AlwaysKeep, PutsOnly, TakesOnly, others}
use Rattle.teco_change_policies.proofs.EitherMode.{by_either_case}
use Rattle.teco_change_policies.proofs.following.always_keep.Goals as goal
use Rattle.teco_policy.specs.Lines.{lines}

pub returns-in-KeepText : goal.returns-in-KeepText
returns-in-KeepText c = λ ok.
    subst (λ p. AlwaysKeep c.args.changes.now p) (sym c.in-KeepText.is)
    (c.text_is_kept.ensures c.args.changes.now (c.is_each.ensures ok))

pub returns-in-KeepLines : goal.returns-in-KeepLines
returns-in-KeepLines c = λ ok.
    subst (λ p. AlwaysKeep c.args.changes.now p) (sym c.in-KeepLines.is)
    (c.swaps_keep_lines.ensures c.args.changes.now (c.is_each-in-KeepLines.ensures ok))

pub returns-then-is_in_either_case : goal.returns-then-is_in_either_case
returns-then-is_in_either_case c = λ ok.
    let search = c.in-KeepOthers.search in
    let keeps : AlwaysKeep c.args.changes.now (others search.text) =
    subst (λ l. AlwaysKeep c.args.changes.now (others l)) c.text.ensures (c.keeps_others.ensures ok) in
    subst (λ p. AlwaysKeep c.args.changes.now p) (sym c.in-KeepOthers.is)
    (λ old new h. by_either_case search (c.is_in_either_case.ensures c.if-is_in_either_case.true) (lines old)
    (lines new) (keeps old new h))

pub returns-in-AddNothing : goal.returns-in-AddNothing
returns-in-AddNothing c = λ ok.
    subst (λ p. AlwaysKeep c.args.changes.now p) (sym c.in-AddNothing.is)
    (c.nothing_is_added.ensures c.args.changes.now (c.is_each-in-AddNothing.ensures ok))

pub returns-in-AddOnly : goal.returns-in-AddOnly
returns-in-AddOnly c = λ ok.
    subst (λ p. AlwaysKeep c.args.changes.now p) (sym c.in-AddOnly.is)
    (c.only_these_are_added.ensures c.in-AddOnly.characters c.args.changes.now
    (subst (λ l. All (PutsOnly l) c.args.changes.now) c.as_slice.ensures.value (c.is_each-in-AddOnly.ensures ok)))

pub returns-in-TakeOnly : goal.returns-in-TakeOnly
returns-in-TakeOnly c = λ ok.
    subst (λ p. AlwaysKeep c.args.changes.now p) (sym c.in-TakeOnly.is)
    (c.only_these_are_taken.ensures c.in-TakeOnly.characters c.args.changes.now
    (subst (λ l. All (TakesOnly l) c.args.changes.now) c.as_slice-in-TakeOnly.ensures.value
    (c.is_each-in-TakeOnly.ensures ok)))
