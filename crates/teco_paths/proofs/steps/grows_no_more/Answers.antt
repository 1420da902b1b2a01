use Rattle.teco_paths.proofs.Prelude.{◌∙◌, ℕ, pos, ◌≤ℤ◌, ◌+ℤ◌, sym, ap, option_map, OnTrue, Point, Course, Describes}
use Rattle.teco_paths.proofs.Prelude.{single, EntryHeld, GrowsNoMore}
use Rattle.teco_poly.specs.Polynomial.{value}
use Rattle.teco_rows.specs.declared.measure.Single.TheVariants.{Held}
use Rattle.teco_paths.proofs.Answered.{if_ok, on_true}
use Rattle.teco_paths.proofs.Claiming.{grows_freely, grows_within}
use Rattle.teco_paths.proofs.steps.grows_no_more.Goals as goal

pub returns-in-Some : goal.returns-in-Some
returns-in-Some c =
    if_ok
    (λ answer. OnTrue answer ((n : ℕ) (s : Point) → Describes n c.args.case.now s
    → single s Held ≤ℤ (single s EntryHeld +ℤ pos (value c.in-Some.grows.now n))))
    (λ answer. OnTrue answer (GrowsNoMore c.args.course.now c.args.case.now)) c.is_grown_within.result
    (λ answer. on_true answer (grows_within c.args.course.now c.args.case.now c.in-Some.grows.now
    (ap (λ (x : Course). x.grows) (sym c.course.view_is) ∙ ap (option_map (λ t. t.now)) c.in-Some.is)))
    c.is_grown_within.ensures

pub returns-in-None : goal.returns-in-None
returns-in-None c =
    grows_freely c.args.course.now c.args.case.now
    (ap (λ (x : Course). x.grows) (sym c.course.view_is) ∙ ap (option_map (λ t. t.now)) c.in-None.is)
