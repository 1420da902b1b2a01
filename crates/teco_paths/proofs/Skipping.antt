-- A test that does not hold leads further than one that does.
use Rattle.teco_paths.proofs.Prelude.{◌≡◌, ℕ, zero, suc, ◌<◌, refl, subst, arith, List, [], ◌∷◌, length, Option, Some}
use Rattle.teco_paths.proofs.Prelude.{None, option_map, Whole, Element, route_of, skip_of, Test}
use Rattle.teco_model.specs.Ahead.{Reading, Faulty, next_of, reading_at, first_readings, readings}
use Rattle.teco_model.specs.Skip.{bracket, inner_behind, pair_end, skip_on}
use Rattle.teco_model.specs.declared.kind.Flow.TheVariants as flow
use Rattle.teco_model.specs.declared.kind.Kind.TheVariants as kind
use Rattle.teco_model.specs.declared.skip.Pairs.{Pairs}
use Rattle.teco_model.specs.declared.skip.Pairs.TheVariants.{Branches}
use Rattle.teco_model.proofs.Ahead.{reading_at-advances}

advance : (text : List ℕ) (at : ℕ) (r : Reading) → reading_at text at ≡ Some r → at < next_of r
advance text at r h = let a = reading_at-advances text at r h in omega (arith, a.stands, a.on)

Ahead : List ℕ → ℕ → Pairs → Type 0
Ahead text more pairs = (at inner : ℕ) (e : Element) → pair_end pairs inner (first_readings more text at) ≡ Some e
    → at < e.next

module _ (text : List ℕ) (pairs : Pairs) (more at : ℕ)
    (on : (next inner : ℕ) (e : Element) → pair_end pairs inner (first_readings more text next) ≡ Some e
    → next < e.next) where
  by_inner : (x e : Element) (behind : Option ℕ) → at < x.next
      → (elim behind [ None ↦ Some x | Some b ↦ pair_end pairs b (first_readings more text x.next) ]) ≡ Some e
      → at < e.next
  by_inner x e None l h = let same : x ≡ e = cc in subst (λ (y : Element). at < y.next) same l
  by_inner x e (Some b) l h = omega (arith, l, on x.next b e h)

  by_whole : (r : Reading) (inner : ℕ) (e : Element) → at < next_of r
      → pair_end pairs inner (r ∷ first_readings more text (next_of r)) ≡ Some e → at < e.next
  by_whole (Whole x) inner e l h = by_inner x e (inner_behind (bracket pairs x.kind) inner) l h
  by_whole (Faulty c place next) inner e l h = omega (arith, l, on next inner e h)

  by_reading : (r : Option Reading) (inner : ℕ) (e : Element) → reading_at text at ≡ r
      → pair_end pairs inner (elim r [ None ↦ [] | Some r ↦ r ∷ first_readings more text (next_of r) ]) ≡ Some e
      → at < e.next
  by_reading None inner e was h = absurd (cc)
  by_reading (Some r) inner e was h = by_whole r inner e (advance text at r was) h

end_ahead : (more : ℕ) (text : List ℕ) (pairs : Pairs) (at inner : ℕ) (e : Element)
    → pair_end pairs inner (first_readings more text at) ≡ Some e → at < e.next
unfolding first_readings
end_ahead zero text pairs at inner e h = absurd (cc)
end_ahead (suc more) text pairs at inner e h =
    by_reading text pairs more at (end_ahead more text pairs) (reading_at text at) inner e refl h

next_is : (o : Option Element) (place : ℕ) → option_map (λ (e : Element). e.next) o ≡ Some place
    → (e : Element) × (o ≡ Some e) × (e.next ≡ place)
next_is None place h = absurd (cc)
next_is (Some e) place h = let z : e.next ≡ place = cc in (e, refl, z)

pub test_skips : (text : List ℕ) (e : Element) (t : Test) (place : ℕ) → e.kind ≡ kind.Flow (flow.Test t)
    → (skip_of text (Whole e)).to ≡ Some place → e.next < place
unfolding readings
test_skips text e t place is h =
    let to : option_map (λ (e : Element). e.next)
    (pair_end Branches 0 (first_readings (length text) text e.next)) ≡ Some place =
    subst (λ k. (skip_on (route_of k) e.text (first_readings (length text) text e.next)).to ≡ Some place) is h in
    let found = next_is (pair_end Branches 0 (first_readings (length text) text e.next)) place to in
    omega (arith, end_ahead (length text) text Branches e.next 0 found.0 found.1, found.2)
