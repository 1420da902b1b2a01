use Rattle.teco_paths.proofs.Prelude.{ℕ, pos, ◌≤ℤ◌, subst, OnTrue, Point, Course, Describes, single, IsInTime}
use Rattle.teco_poly.specs.Polynomial.{value}
use Rattle.teco_rows.specs.declared.measure.Single.TheVariants.{Steps}
use Rattle.teco_paths.proofs.Answered.{if_ok, on_true}
use Rattle.teco_paths.proofs.Claiming.{number_within}
use Rattle.teco_paths.proofs.steps.is_in_time.Goals as goal

pub returns : goal.returns
returns c =
    if_ok
    (λ answer. OnTrue answer ((n : ℕ) (s : Point) → Describes n c.args.case.now s
    → single s Steps ≤ℤ pos (value c.course.inside.commands.now n)))
    (λ answer. OnTrue answer (IsInTime c.args.course.now c.args.case.now)) c.is_bounded.result
    (λ answer. on_true answer (λ within. subst (λ (x : Course). IsInTime x c.args.case.now) c.course.view_is
    (number_within c.args.case.now (λ n. value c.course.inside.commands.now n)
    (λ (s : Point). s.steps) within)))
    c.is_bounded.ensures
