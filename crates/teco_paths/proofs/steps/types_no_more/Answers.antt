use Rattle.teco_paths.proofs.Prelude.{◌∙◌, ℕ, pos, ◌≤ℤ◌, sym, ap, option_map, OnTrue, Point, Course, Describes, single}
use Rattle.teco_paths.proofs.Prelude.{Typed, TypesNoMore}
use Rattle.teco_poly.specs.Polynomial.{value}
use Rattle.teco_paths.proofs.Answered.{if_ok, on_true}
use Rattle.teco_paths.proofs.Claiming.{types_within}
use Rattle.teco_paths.proofs.steps.types_no_more.Goals as goal

pub returns-in-Some : goal.returns-in-Some
returns-in-Some c =
    if_ok
    (λ answer. OnTrue answer ((n : ℕ) (s : Point) → Describes n c.args.case.now s
    → single s Typed ≤ℤ pos (value c.in-Some.types.now n)))
    (λ answer. OnTrue answer (TypesNoMore c.args.course.now c.args.case.now)) c.is_bounded.result
    (λ answer. on_true answer (types_within c.args.course.now c.args.case.now c.in-Some.types.now
    (ap (λ (x : Course). x.types) (sym c.course.view_is) ∙ ap (option_map (λ t. t.now)) c.in-Some.is)))
    c.is_bounded.ensures
