-- Comparisons, in whichever order.
use Rattle.teco_expansion.proofs.Prelude.{◌≡◌, ℕ, zero, suc, ◌+◌, ◌≤◌, List, [], ◌∷◌, map, drop, length, reverse, Bool}
use Rattle.teco_expansion.proofs.Prelude.{true, false, ◌&&◌, refl, sym, ap, ◌∙◌, slice_get, bytes_eq, arith, drop_all}
use Rattle.teco_expansion.proofs.Prelude.{bytes_eq-Decides, same_spots, same_waiting, spot_seen, Spot, Texts}
use Rattle.std.proofs.lemmas.Bool.Decides.{same_from_decides}
use Rattle.std.proofs.lemmas.List.{reverse-reverse}

turned : (xs ys : List ℕ) → reverse xs ≡ reverse ys → xs ≡ ys
turned xs ys h = sym (reverse-reverse xs) ∙ ap reverse h ∙ reverse-reverse ys

-- lists that are turned round are compared as they are
pub reversed : (xs ys : List ℕ) → bytes_eq xs ys ≡ bytes_eq (reverse xs) (reverse ys)
reversed xs ys =
    let one = bytes_eq-Decides xs ys in
    let two = bytes_eq-Decides (reverse xs) (reverse ys) in
    same_from_decides {P = xs ≡ ys} (bytes_eq xs ys) (bytes_eq (reverse xs) (reverse ys)) one
    (λ h. turned xs ys (two.0 h), λ e. two.1 (ap reverse e))

pub with_itself : (text : List ℕ) → bytes_eq text text ≡ true
with_itself text = (bytes_eq-Decides text text).1 refl

pub text_last : (place text starts : Bool) → (place && (starts && text)) ≡ (place && (text && starts))
text_last false text starts = refl
text_last true false false = refl
text_last true false true = refl
text_last true true false = refl
text_last true true true = refl

pub callers_last : (spot callers iterations : Bool)
    → (spot && (iterations && callers)) ≡ ((spot && callers) && iterations)
callers_last false callers iterations = refl
callers_last true false false = refl
callers_last true false true = refl
callers_last true true false = refl
callers_last true true true = refl

pub place_first : (place text callers : Bool) → (place && (callers && text)) ≡ ((place && text) && callers)
place_first place text callers = callers_last place text callers

drop_nil : (k : ℕ) → drop {A = Spot} k [] ≡ []
drop_nil zero = refl
drop_nil (suc k) = refl

at_front : (texts : Texts) (xs ys : List Spot) (k : ℕ) → (let seen = spot_seen texts in
    same_spots (map seen (drop k xs)) (map seen (drop k ys)) ≡ (same_waiting texts (slice_get xs k) (slice_get ys k)
    && same_spots (map seen (drop (suc k) xs)) (map seen (drop (suc k) ys))))
at_front texts [] [] zero = refl
at_front texts [] [] (suc k) = refl
at_front texts [] (y ∷ ys) zero = refl
at_front texts (x ∷ xs) [] zero = refl
at_front texts (x ∷ xs) (y ∷ ys) zero = refl
at_front texts [] (y ∷ ys) (suc k) = simp drop_nil at (at_front texts [] ys k)
at_front texts (x ∷ xs) [] (suc k) = simp drop_nil at (at_front texts xs [] k)
at_front texts (x ∷ xs) (y ∷ ys) (suc k) = at_front texts xs ys k

-- the texts that wait are compared one after another
pub waiting_from : (texts : Texts) (xs ys : List Spot) (k : ℕ) → (let seen = spot_seen texts in
    same_spots (map seen (drop k xs)) (map seen (drop k ys)) ≡ (same_waiting texts (slice_get xs k) (slice_get ys k)
    && same_spots (map seen (drop (k + 1) xs)) (map seen (drop (k + 1) ys))))
waiting_from texts xs ys k =
    let one : suc k ≡ k + 1 = omega arith in
    at_front texts xs ys k
    ∙ ap (λ n. same_waiting texts (slice_get xs k) (slice_get ys k) && same_spots (map (spot_seen texts) (drop n xs))
    (map (spot_seen texts) (drop n ys))) one

-- until there are no more
pub waiting_end : (texts : Texts) (xs ys : List Spot) (k : ℕ) → length xs ≤ k → length ys ≤ k
    → same_spots (map (spot_seen texts) (drop k xs)) (map (spot_seen texts) (drop k ys)) ≡ true
waiting_end texts xs ys k h g = rw (drop_all k xs h, drop_all k ys g) refl
