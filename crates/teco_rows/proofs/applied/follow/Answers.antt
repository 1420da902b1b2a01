use Rattle.teco_rows.proofs.Prelude.{◌≡◌, refl, sym, ap, ◌∙◌, arith, to_z, of_z, common_steps, to_z-of_z, place}
use Rattle.std.proofs.Common.{w64}
use Rattle.teco_rows.proofs.Following.{adds_set, adds_drop, adds_want}
use Rattle.teco_rows.proofs.applied.follow.Goals as goal

pub returns-in_ok-put-in-Sets : goal.returns-in_ok-put-in-Sets
returns-in_ok-put-in-Sets c =
    let same : to_z w64 (of_z w64 c.in-Sets.constant) ≡ c.in-Sets.constant = grind (arith, common_steps, to_z-of_z) in
    adds_set c.args.case.now c.args.step.now c.args.clause.now c.args.draft.now _ c.in-Sets.mark c.in-Sets.constant
    c.in-Sets.parts c.in_ok-form-in-Sets.form c.place-place.result _ (sym c.in-Sets.is) same
    c.in_ok-form-in-Sets.ensures (c.place-place.ensures ∙ ap place c.measure.ensures) c.in_ok-put-in-Sets.ensures refl

pub returns-in_ok-put-in-Drops : goal.returns-in_ok-put-in-Drops
returns-in_ok-put-in-Drops c =
    adds_drop c.args.case.now c.args.step.now c.args.clause.now c.args.draft.now _ c.in-Drops.mark
    c.place-place-in-Drops.result (sym c.in-Drops.is) (c.place-place-in-Drops.ensures
    ∙ ap place c.measure-in-Drops.ensures)
    c.in_ok-put-in-Drops.ensures refl

pub returns-in_ok-push-in-Wants : goal.returns-in_ok-push-in-Wants
returns-in_ok-push-in-Wants c =
    let same : to_z w64 (of_z w64 c.in-Wants.constant) ≡ c.in-Wants.constant = grind (arith, common_steps, to_z-of_z) in
    adds_want c.args.case.now c.args.step.now c.args.clause.now c.args.draft.now _ c.in-Wants.constant c.in-Wants.parts
    c.in_ok-form-in-Wants.form _ (sym c.in-Wants.is) same c.in_ok-form-in-Wants.ensures refl
    c.in_ok-push-in-Wants.ensures.items
