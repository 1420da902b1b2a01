use Rattle.teco_paths.proofs.Prelude.{IsSharper}
use Rattle.teco_paths.proofs.Answered.{if_ok}
use Rattle.teco_paths.proofs.Sharpening.{sharper_still}
use Rattle.teco_paths.proofs.room.with_room.Goals as goal

pub returns : goal.returns
returns c =
    if_ok (λ more. IsSharper c.in_ok-fitting.fitting more) (λ more. IsSharper c.args.case more) c.with_growth.result
    (λ more still. sharper_still c.args.case c.in_ok-fitting.fitting more c.in_ok-fitting.ensures still)
    c.with_growth.ensures
