use Rattle.teco_paths.proofs.Prelude.{ℕ, pos, ◌≤ℤ◌, subst, OnTrue, Point, Course, Describes, single}
use Rattle.teco_poly.specs.Polynomial.{value}
use Rattle.teco_rows.specs.declared.measure.Single.TheVariants.{Held}
use Rattle.teco_paths.proofs.Answered.{on_true}
use Rattle.teco_paths.proofs.Claiming.{small_where}
use Rattle.teco_paths.proofs.steps.is_small.Goals as goal

pub returns-then-is_fitting : goal.returns-then-is_fitting
returns-then-is_fitting c =
    let case = c.args.case.now in
    let fits = subst
    (λ answer. OnTrue answer ((n : ℕ) (s : Point) → Describes n case s
    → single s Held ≤ℤ pos (value c.course.inside.size.now n)))
    c.if-is_fitting.true c.in_ok-is_fitting.ensures in
    on_true c.in_ok-is_grown.is_grown
    (small_where c.args.course.now case
    (subst (λ (x : Course). (n : ℕ) (s : Point) → Describes n case s → single s Held ≤ℤ pos (value x.size n))
    c.course.view_is fits))
    c.in_ok-is_grown.ensures
