-- What a pop leaves.
use Rattle.teco_facts.proofs.Prelude.{◌≡◌, refl, ℕ, List, ◌∷◌, length, Bool, false, Ok, Err, Facts, Pushed}
use Rattle.std.specs.List.{list_all}
use Rattle.std.specs.Prelude.{nat_lt, if◌then◌else◌}
use Rattle.teco_verifier.specs.facts.Facts.{Iteration}
use Rattle.teco_verifier.specs.facts.Storages.{with_popped, with_number, with_text}
use Rattle.teco_verifier.specs.declared.refusal.RefusalReason.TheVariants as refusal

pub popped : (r : ℕ) (facts new : Facts) (pair : Pushed) (pushes : List Pushed) (count : ℕ) (above : Bool)
    → count ≡ length facts.pushes → facts.pushes ≡ pair ∷ pushes → new ≡ record facts { pushes = pushes }
    → above ≡ list_all (λ (i : Iteration). nat_lt i.pushes count) facts.iterations
    → (if above then Ok (with_text r pair.text (with_number r pair.number false new)) else Err refusal.Pop)
    ≡ with_popped r facts.pushes facts
popped r facts new pair pushes count above k e f g = rw (g, k, f, e) refl
