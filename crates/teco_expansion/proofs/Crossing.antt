-- What is crossed on a way, one reading after another.
use Rattle.teco_expansion.proofs.Prelude.{◌≡◌, ℕ, ◌<◌, List, length, true, false, nat_le, Some, None, refl, Code}
use Rattle.teco_expansion.proofs.Prelude.{Iterations, Whole, Faulty, reading_at, readings, Element, bracket}
use Rattle.teco_expansion.proofs.Prelude.{readings-some, readings-none, Crossed, not_crossed, behind_bracket}
use Rattle.teco_expansion.proofs.Prelude.{crossed_to, crossed}
use Rattle.teco_expansion.proofs.Elements.{none_behind}

pub crossed-none : (to : ℕ) (c : Crossed) (text : List ℕ) (at : ℕ) → reading_at text at ≡ None →
    crossed_to to c (readings text at) ≡ c
crossed-none to c text at h = rw (readings-none text at h) refl

pub crossed-faulty : (to : ℕ) (c : Crossed) (text : List ℕ) (at : ℕ) (code : Code) (place next : ℕ)
    → reading_at text at ≡ Some (Faulty code place next) →
    crossed_to to c (readings text at) ≡ crossed_to to c (readings text next)
crossed-faulty to c text at code place next h = rw (readings-some text at _ h) refl

pub crossed-there : (to : ℕ) (c : Crossed) (text : List ℕ) (at : ℕ) (e : Element)
    → reading_at text at ≡ Some (Whole e) →
    nat_le to e.place ≡ true → crossed_to to c (readings text at) ≡ c
crossed-there to c text at e h b = rw (readings-some text at _ h) (rw (b, crossed_to) refl)

pub crossed-on : (to : ℕ) (c : Crossed) (text : List ℕ) (at : ℕ) (e : Element) → reading_at text at ≡ Some (Whole e) →
    nat_le to e.place ≡ false → crossed_to to c (readings text at) ≡ crossed_to to
    (behind_bracket (bracket Iterations e.kind) c) (readings text e.next)
crossed-on to c text at e h b = rw (readings-some text at _ h) (rw (b, crossed_to) refl)

-- behind the end nothing is
pub crossed-behind : (text : List ℕ) (from to : ℕ) → length text < from → crossed text from to ≡ not_crossed
unfolding reading_at
crossed-behind text from to l = crossed-none to not_crossed text from (rw (reading_at, none_behind text from l) refl)
