use Rattle.teco_paths.proofs.Prelude.{subst, sym, ap, ◌∙◌, length, slice_index_or, arith, OnTrue, Arrives, Course}
use Rattle.teco_paths.proofs.Onward.{cut_leads}
use Rattle.teco_paths.proofs.following.is_at_cut.Goals as goal

pub returns-then-branch : goal.returns-then-branch
returns-then-branch c =
    cut_leads c.args.course.now c.args.spot.now c.loop-cut.cut-index c.cut-item.result
    (omega (arith, ap (λ (x : Course). length x.cuts) c.course.view_is))
    (ap (λ (x : Course). slice_index_or x.cuts c.loop-cut.cut-index c.cut-item.result) (sym c.course.view_is)
    ∙ sym c.cut-item.is)
    (subst (λ b. OnTrue b (Arrives c.args.course.now c.args.spot.now c.cut-item.result)) c.if-branch.true
    c.in_ok-is_arrived.ensures)
