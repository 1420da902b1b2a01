-- How a case that a row leads to describes the state behind.
use Rattle.teco_rows.proofs.Prelude.{◌≡◌, ℕ, ◌+◌, ◌<◌, ℤ, List, [], ◌∷◌, ◌++◌, length, refl, sym, ap, subst, ◌∙◌, arith}
use Rattle.teco_rows.proofs.Prelude.{get_or-append_seam, Valuation, Kept, Level, Case, Outcomes, RowStep, Holds}
use Rattle.teco_rows.proofs.Prelude.{read_with, Point, IsShape, IsLed, IsTrueOf, Describes, operators_of, behind}
use Rattle.teco_rows.proofs.Prelude.{measures_of, Describe, with_level}
use Rattle.std.specs.List.{Any}
use Rattle.teco_model.specs.Going as going
use Rattle.teco_rows.specs.Cases.{Carries}

any_at : {X : Type 0} (P : X → Type 0) (xs front back : List X) (x : X) → xs ≡ front ++ x ∷ back → P x → Any P xs
any_at P xs front back x e p =
    subst (Any P) (sym e) (length front, x, inside front, get_or-append_seam front x back x, p) where
      inside : (front : List _) → length front < length (front ++ x ∷ back)
      inside [] = omega arith
      inside (y ∷ front) = let h = inside front in omega arith

-- a row holds of two states, and a case is true of the first
pub described : (n : ℕ) (v : Valuation) (case after : Case) (step : RowStep) (s t : Point) (unknown : ℕ → ℤ)
    → Carries case step after → IsTrueOf n v case s
    → Holds step.clauses.now (read_with step n v (measures_of s) unknown) (measures_of t)
    → IsShape after.shape t → Describes n after t
described n v case after step s t unknown carries true_of holds shape =
    let made = carries n v (measures_of s) (measures_of t) unknown true_of.fits holds in
    (made.0, record { fits = made.2; shape = shape })

-- it is one of the cases
pub among : (n : ℕ) (outcomes : Outcomes) (after : Case) (front back : List Case) (t : Point)
    → outcomes.cases.items ≡ front ++ after ∷ back → Describes n after t → Describe n outcomes t
among n outcomes after front back t e d = any_at (λ c. Describes n c t) outcomes.cases.items front back after e d

-- so is the case behind a row, where the innermost level is another one and as much is pushed
pub led_on : (n : ℕ) (v : Valuation) (case after : Case) (step : RowStep) (s : Point) (kept : Kept) (level : Level)
    (unknown : ℕ → ℤ) → IsLed case step level.operator after → IsTrueOf n v case s
    → length kept.registers.stack ≡ length s.kept.registers.stack
    → Holds step.clauses.now (read_with step n v (measures_of s) unknown)
    (measures_of (behind s (going.after kept (record s.arguments { level = level }))))
    → Describes n after (behind s (going.after kept (record s.arguments { level = level })))
led_on n v case after step s kept level unknown led true_of same holds =
    let h = true_of.shape in
    described n v case after step s (behind s (going.after kept (record s.arguments { level = level }))) unknown
    led.carries true_of holds (record {
      operators = led.last (operators_of s.arguments.outer) s.arguments.level.operator h.operators;
      iterations = led.iterations ∙ h.iterations;
      pushes = ap (λ k. s.origin.pushes + k) led.pushes ∙ h.pushes ∙ sym same;
    })

pub led_to : (n : ℕ) (v : Valuation) (case after : Case) (step : RowStep) (s : Point) (level : Level) (unknown : ℕ → ℤ)
    → IsLed case step level.operator after → IsTrueOf n v case s
    → Holds step.clauses.now (read_with step n v (measures_of s) unknown) (measures_of (behind s (with_level s level)))
    → Describes n after (behind s (with_level s level))
led_to n v case after step s level unknown led true_of holds =
    led_on n v case after step s s.kept level unknown led true_of refl holds
