use Rattle.teco_find.proofs.Prelude.{ap, ◌∙◌, drop, joined}
use Rattle.teco_find.proofs.Starts.{first_start, no_start}
use Rattle.teco_find.proofs.anchor.Anchor.first_start.Goals as goal

pub returns-in_err-place : goal.returns-in_err-place
returns-in_err-place c =
    let ahead = c.text_from.ensures ∙ ap (drop c.args.self.distance) c.text_from-rest.ensures in
    rw c.from_residual.ensures (no_start c.args.self (joined c.args.text) c.args.at
    (joined c.text_from.result) ahead c.first_in.result c.in_err-place.was c.first_in.ensures)

pub returns : goal.returns
returns c =
    let ahead = c.text_from.ensures ∙ ap (drop c.args.self.distance) c.text_from-rest.ensures in
    first_start c.args.self (joined c.args.text) c.args.at (joined c.text_from.result) ahead c.first_in.result
    c.in_ok-place.place c.in_ok-place.was c.first_in.ensures
