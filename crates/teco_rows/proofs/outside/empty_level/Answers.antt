use Rattle.teco_rows.proofs.Prelude.{◌∙◌, ap, place}
use Rattle.teco_rows.proofs.Closing.{empties}
use Rattle.teco_rows.proofs.outside.empty_level.Goals as goal

pub returns : goal.returns
returns c =
    empties c.args.here _ _ _ c.place.result c.place-2.result (c.place.ensures ∙ ap place c.measure.ensures)
    c.in_ok-put.ensures (c.place-2.ensures ∙ ap place c.measure-2.ensures) c.in_ok-put-2.ensures
