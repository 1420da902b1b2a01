use Rattle.teco_motion_outcomes.proofs.Prelude.{◌≡◌, ◌∙◌, ap, arith, length, pos, sym, common_steps, line_place}
use Rattle.teco_motion_outcomes.proofs.Inserting.{starts_at_first}
use Rattle.teco_motion_outcomes.proofs.insertions.last_start.Goals as goal

pub loop-place-init : goal.loop-place-init
loop-place-init c = sym (starts_at_first c.args.text.now)

pub start_behind-start-requires-clause-start : goal.start_behind-start-requires-clause-start
start_behind-start-requires-clause-start c = c.loop-place.invariant

pub returns : goal.returns
returns c =
    let at : c.loop-place.place ≡ length c.args.text.now = grind (arith, common_steps) in
    c.loop-place.invariant ∙ ap (λ x. line_place c.args.text.now x (pos 0)) at
