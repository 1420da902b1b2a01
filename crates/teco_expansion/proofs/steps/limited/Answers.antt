use Rattle.teco_expansion.proofs.Prelude.{sym, ◌∙◌, visit_seen}
use Rattle.teco_expansion.proofs.Stepping.{limited-within, limited-beyond}
use Rattle.teco_expansion.proofs.steps.limited.Goals as goal

pub returns-then-is_within : goal.returns-then-is_within
returns-then-is_within c =
    let texts = c.args.texts.now in
    limited-within c.args.number (visit_seen texts c.args.next) (sym (c.is_within.ensures texts) ∙ c.if-is_within.true)

pub returns-else-is_within : goal.returns-else-is_within
returns-else-is_within c =
    let texts = c.args.texts.now in
    limited-beyond c.args.number (visit_seen texts c.args.next) (sym (c.is_within.ensures texts) ∙ c.if-is_within.false)
