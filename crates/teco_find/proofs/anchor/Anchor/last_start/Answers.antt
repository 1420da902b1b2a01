use Rattle.teco_find.proofs.Prelude.{ap, ◌∙◌, take, joined}
use Rattle.teco_find.proofs.Starts.{last_start}
use Rattle.teco_find.proofs.anchor.Anchor.last_start.Goals as goal

pub returns : goal.returns
returns c = last_start c.args.self (joined c.args.text) c.args.before (joined c.text_up_to.result)
    (c.text_up_to.ensures ∙ ap (take c.args.before) c.text_from-ahead.ensures) c.last_in.result c.last_in.ensures
