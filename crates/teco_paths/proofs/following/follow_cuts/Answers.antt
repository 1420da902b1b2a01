use Rattle.teco_paths.proofs.Prelude.{sym, ap, ◌∙◌, length, slice_index_or, arith, Course}
use Rattle.teco_paths.proofs.Onward.{followed_more}
use Rattle.teco_paths.proofs.following.follow_cuts.Goals as goal

pub loop-cut-preserved : goal.loop-cut-preserved
loop-cut-preserved c =
    followed_more c.args.course.now c.loop-cut.cut-index c.cut-item.result
    (omega (arith, ap (λ (x : Course). length x.cuts) c.course.view_is))
    (ap (λ (x : Course). slice_index_or x.cuts c.loop-cut.cut-index c.cut-item.result) (sym c.course.view_is)
    ∙ sym c.cut-item.is)
    c.loop-cut.invariant c.in_ok-follow_cut.ensures

pub returns : goal.returns
returns c k d l =
    c.loop-cut.invariant k d (omega (arith, l, ap (λ (x : Course). length x.cuts) c.course.view_is))
