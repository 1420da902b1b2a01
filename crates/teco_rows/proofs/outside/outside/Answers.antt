use Rattle.teco_rows.proofs.Prelude.{refl}
use Rattle.teco_rows.proofs.Closing.{is_outside}
use Rattle.teco_rows.proofs.outside.outside.Goals as goal

pub returns : goal.returns
returns c =
    is_outside c.args.case.now c.in_ok-outside.outside _ c.in_ok-here.here c.in_ok-here.ensures c.in_ok-outside.ensures
    c.in_ok-empty_level.ensures refl c.close_level.ensures refl refl
