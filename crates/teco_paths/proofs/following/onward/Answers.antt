use Rattle.teco_paths.proofs.Prelude.{All, LeadsOn}
use Rattle.teco_paths.proofs.Answered.{if_ok}
use Rattle.teco_paths.proofs.Onward.{sharper_leads}
use Rattle.teco_paths.proofs.following.onward.Goals as goal

pub returns : goal.returns
returns c =
    if_ok (λ spots. All (LeadsOn c.args.course.now) spots.items
    → LeadsOn c.args.course.now (record { number = c.args.spot.number; case = c.in_ok-known.known }))
    (λ spots. All (LeadsOn c.args.course.now) spots.items → LeadsOn c.args.course.now c.args.spot)
    c.spots_ahead.result
    (λ spots leads all. sharper_leads c.args.course.now c.args.spot.number c.args.spot.case c.in_ok-sharp.sharp
    c.in_ok-sharp.ensures
    (sharper_leads c.args.course.now c.args.spot.number c.in_ok-sharp.sharp c.in_ok-light.light
    c.in_ok-light.ensures
    (sharper_leads c.args.course.now c.args.spot.number c.in_ok-light.light c.in_ok-known.known
    c.in_ok-known.ensures (leads all))))
    c.spots_ahead.ensures
