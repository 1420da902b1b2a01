use Rattle.teco_paths.proofs.Prelude.{subst, sym, ap, ◌∙◌, length, slice_index_or, arith, OnTrue, ComesTo, Course}
use Rattle.teco_paths.proofs.following.is_said.Goals as goal

pub returns-then-branch : goal.returns-then-branch
returns-then-branch c n s d some =
    let comes =
    subst (λ b. OnTrue b (ComesTo c.args.case.now c.cut-item.result)) c.if-branch.true c.in_ok-comes_to.ensures in (
      c.loop-cut.cut-index,
      c.cut-item.result,
      omega (arith, ap (λ (x : Course). length x.cuts) c.course.view_is),
      ap (λ (x : Course). slice_index_or x.cuts c.loop-cut.cut-index c.cut-item.result) (sym c.course.view_is)
          ∙ sym c.cut-item.is,
      (c.if-cut-number.true, comes n d.0 s d.1),
    )
