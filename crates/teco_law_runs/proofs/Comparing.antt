-- Stands that compare alike are one, and a stand compares alike to itself.
use Rattle.teco_law_runs.proofs.Prelude.{◌≡◌, ℕ, List, [], ◌∷◌, Bool, true, false, ◌==◌, refl, eqb-true, arith, Spot}
use Rattle.teco_law_runs.proofs.Prelude.{Position, Stand, same_stand}
use Rattle.std.proofs.Common.{◌&&◌, bytes_eq}
use Rattle.std.proofs.lemmas.Slice.Eq.{bytes_eq-Decides}
use Rattle.teco_law_runs.proofs.Lookup.{same_number}
use Rattle.teco_verifier.specs.expansion.Expansion.{same_spot, same_spots, same_position}

pub and_left : (a b : Bool) → (a && b) ≡ true → a ≡ true
and_left true b h = refl
and_left false b h = absurd (cc)

pub and_right : (a b : Bool) → (a && b) ≡ true → b ≡ true
and_right true b h = h
and_right false b h = absurd (cc)

-- stands that compare alike are one
spots_alike : (a b : Spot) → same_spot a b ≡ true → a ≡ b
spots_alike a b h =
    let place : a.place ≡ b.place = eqb-true a.place b.place (and_left (a.place == b.place) _ h) in
    let rest : (bytes_eq a.text b.text && bytes_eq a.starts b.starts) ≡ true = and_right (a.place == b.place) _ h in
    let text : a.text ≡ b.text = (bytes_eq-Decides a.text b.text).0 (and_left (bytes_eq a.text b.text) _ rest) in
    let starts : a.starts ≡ b.starts =
    (bytes_eq-Decides a.starts b.starts).0 (and_right (bytes_eq a.text b.text) _ rest) in
    λ i. record { text = text i; place = place i; starts = starts i }

callers_alike : (first second : List Spot) → same_spots first second ≡ true → first ≡ second
callers_alike [] [] h = refl
callers_alike (a ∷ first) (b ∷ second) h =
    let head : a ≡ b = spots_alike a b (and_left (same_spot a b) _ h) in
    let tail : first ≡ second = callers_alike first second (and_right (same_spot a b) _ h) in cc
callers_alike first second h = absurd (grind arith)

positions_alike : (p q : Position) → same_position p q ≡ true → p ≡ q
positions_alike p q h =
    let running : p.running ≡ q.running =
    spots_alike p.running q.running (and_left (same_spot p.running q.running) _ h) in
    let callers : p.callers ≡ q.callers =
    callers_alike p.callers q.callers (and_right (same_spot p.running q.running) _ h) in
    λ i. record { running = running i; callers = callers i }

pub stands_alike : (a b : Stand) → same_stand a b ≡ true → a ≡ b
stands_alike a b h =
    let position : a.position ≡ b.position =
    positions_alike a.position b.position (and_left (same_position a.position b.position) _ h) in
    let iterations : a.iterations ≡ b.iterations =
    (bytes_eq-Decides a.iterations b.iterations).0 (and_right (same_position a.position b.position) _ h) in
    λ i. record { position = position i; iterations = iterations i }

-- and one stand compares alike to itself
same_bytes : (xs : List ℕ) → bytes_eq xs xs ≡ true
same_bytes xs = (bytes_eq-Decides xs xs).1 refl

and_both : (a b : Bool) → a ≡ true → b ≡ true → (a && b) ≡ true
and_both a b h g = rw (h, g) refl

spot_alike : (a : Spot) → same_spot a a ≡ true
spot_alike a = and_both (a.place == a.place) _ (same_number a.place)
    (and_both (bytes_eq a.text a.text) (bytes_eq a.starts a.starts) (same_bytes a.text) (same_bytes a.starts))

spots_of_itself : (spots : List Spot) → same_spots spots spots ≡ true
spots_of_itself [] = refl
spots_of_itself (spot ∷ spots) = and_both (same_spot spot spot) (same_spots spots spots) (spot_alike spot)
    (spots_of_itself spots)

pub stand_alike : (a : Stand) → same_stand a a ≡ true
stand_alike a = search (and_both, spot_alike, spots_of_itself, same_bytes)
