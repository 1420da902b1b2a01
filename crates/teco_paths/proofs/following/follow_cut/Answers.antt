use Rattle.teco_paths.proofs.Prelude.{subst, arith, IsCaseOf, Course}
use Rattle.teco_paths.proofs.Answered.{on_ok}
use Rattle.teco_paths.proofs.Onward.{cut_followed, first_followed}
use Rattle.teco_paths.proofs.following.follow_cut.Goals as goal

pub returns : goal.returns
returns c =
    on_ok c.follow_case.result
    (λ leads. cut_followed c.args.course.now c.args.cut.now c.in_ok-case.case
    (subst (λ (x : Course). IsCaseOf x.size c.args.cut.now c.in_ok-case.case) c.course.view_is c.in_ok-case.ensures)
    leads)
    c.follow_case.ensures

pub returns-then-cut-eq1 : goal.returns-then-cut-eq1
returns-then-cut-eq1 c = first_followed c.args.course.now c.args.cut.now (omega arith)
