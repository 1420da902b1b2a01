-- How many iterations are open in the texts that wait.
use Rattle.teco_expansion.proofs.Prelude.{◌≡◌, ℕ, zero, suc, ◌+◌, ◌≤◌, List, [], ◌∷◌, map, drop, length, refl, ap, ◌∙◌}
use Rattle.teco_expansion.proofs.Prelude.{slice_get, length-append, arith, drop_all, starts_in, listed, spot_seen, Spot}
use Rattle.teco_expansion.proofs.Prelude.{Texts}
use Rattle.teco_expansion.specs.Linking.{open_in}

-- how many starts the callers from a place on have
abbrev pub left_from : Texts → List Spot → ℕ → ℕ
left_from texts spots k = length (starts_in (map (spot_seen texts) (drop k spots)))

at_place : (texts : Texts) (spots : List Spot) (k : ℕ)
    → left_from texts spots k ≡ open_in (slice_get spots k) + left_from texts spots (suc k)
at_place texts [] zero = refl
at_place texts [] (suc k) = refl
at_place texts (x ∷ spots) zero = length-append (listed x.starts) (starts_in (map (spot_seen texts) spots))
at_place texts (x ∷ spots) (suc k) = at_place texts spots k

pub left_at : (texts : Texts) (spots : List Spot) (k : ℕ)
    → left_from texts spots k ≡ open_in (slice_get spots k) + left_from texts spots (k + 1)
left_at texts spots k =
    let one : suc k ≡ k + 1 = omega arith in
    at_place texts spots k ∙ ap (λ n. open_in (slice_get spots k) + left_from texts spots n) one

pub left_past : (texts : Texts) (spots : List Spot) (k : ℕ) → length spots ≤ k → left_from texts spots k ≡ 0
left_past texts spots k h = rw (drop_all k spots h) refl
