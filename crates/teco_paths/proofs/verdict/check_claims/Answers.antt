use Rattle.teco_paths.specs.Claims.{AreSaid}
use Rattle.teco_paths.proofs.Prelude.{subst, OnTrue, IsCaseOf, IsEntryCut, Course}
use Rattle.teco_paths.proofs.Answered.{on_ok}
use Rattle.teco_paths.proofs.Certain.{certain}
use Rattle.teco_paths.proofs.verdict.check_claims.Goals as goal

pub returns : goal.returns
returns c =
    on_ok c.follow_case.result
    (λ leads. certain c.args.course.now c.args.argument c.in_ok-cut.cut c.in_ok-case.case
    (subst (λ (x : Course). IsCaseOf x.size c.in_ok-cut.cut c.in_ok-case.case) c.course.view_is c.in_ok-case.ensures)
    (subst (λ (x : Course). IsEntryCut x.lengths c.args.argument c.in_ok-cut.cut) c.course.view_is c.in_ok-cut.ensures)
    leads
    (subst (λ b. OnTrue b (AreSaid c.args.course.now.cuts 1 c.in_ok-case.case)) c.if-not-is_as_said.false
    c.in_ok-is_as_said.ensures)
    c.in_ok-follow_cuts.ensures)
    c.follow_case.ensures
