use Rattle.teco_motion_outcomes.proofs.Prelude.{refl, ap, ◌∙◌, pos}
use Rattle.teco_motion_outcomes.proofs.Inserting.{inserts}
use Rattle.teco_motion_outcomes.proofs.insertions.insert_text.Goals as goal

pub returns : goal.returns
returns c =
    inserts c.args.case.now _ c.args.text.now c.in_ok-long.long c.in_ok-start.start c.in_ok-end.end c.in_ok-here.here _
    c.in_ok-cases.ensures (_, refl, refl) (_, refl, refl) c.in_ok-long.ensures
    (λ n v. c.in_ok-start.ensures n v ∙ ap pos c.last_start.ensures) c.in_ok-end.ensures c.in_ok-conditions.ensures
