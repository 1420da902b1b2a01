use Rattle.teco_motion_outcomes.proofs.Prelude.{refl}
use Rattle.teco_motion_outcomes.proofs.Inserting.{inserts_any}
use Rattle.teco_motion_outcomes.proofs.insertions.insert_any.Goals as goal

pub returns : goal.returns
returns c =
    inserts_any c.args.case.now _ c.in_ok-long.long c.in_ok-here.here _ c.in_ok-cases.ensures (_, refl, refl)
    c.in_ok-long.ensures c.in_ok-conditions.ensures
