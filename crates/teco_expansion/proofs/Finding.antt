-- The number of the first that passes, behind a number.
use Rattle.std.proofs.Common.{◌≡◌, ℕ, zero, suc, ◌+◌, ◌<◌, ◌≤◌, List, [], ◌∷◌, drop, map, length, Bool, true, false}
use Rattle.std.proofs.Common.{◌||◌, Option, Some, None, option_map, refl, sym, ap, ◌∙◌, nat_lt, get_or, ⊎_elim, arith}
use Rattle.std.specs.List.{position, position_or_len, list_any}
use Rattle.std.proofs.lemmas.Bool.{lt-ltb, le-ltb, ltb-true, true≢false, cases_lt}
use Rattle.std.proofs.lemmas.List.{drop_all, length-map}

position_head : {X : Type 0} (p : X → Bool) (x : X) (xs : List X) → p x ≡ true → position p (x ∷ xs) ≡ Some 0
position_head p x xs e = rw (e, lt-ltb 0 (length (x ∷ xs)) (omega arith)) refl

position_next : {X : Type 0} (p : X → Bool) (x : X) (xs : List X) → p x ≡ false
    → position p (x ∷ xs) ≡ option_map suc (position p xs)
position_next p x xs e = go (nat_lt (position_or_len p xs) (length xs)) refl
  where
    go : (b : Bool) → nat_lt (position_or_len p xs) (length xs) ≡ b
        → position p (x ∷ xs) ≡ option_map suc (position p xs)
    go true t =
        let lt = ltb-true _ _ t in
        let turned : 1 + position_or_len p xs ≡ suc (position_or_len p xs) = omega arith in
        rw (e, t, lt-ltb (1 + position_or_len p xs) (suc (length xs)) (omega arith)) (ap Some turned)
    go false t = ⊎_elim
        (λ lt. absurd (true≢false (sym (lt-ltb _ _ lt) ∙ t)))
        (λ ge.
        let inner = le-ltb (1 + position_or_len p xs) (suc (length xs)) (omega arith) in
        rw (e, t, inner) refl)
        (cases_lt (position_or_len p xs) (length xs))

shifted : (n : ℕ) (o : Option ℕ)
    → option_map (λ k. suc (n + k)) (option_map suc o) ≡ option_map (λ k. suc (suc n + k)) o
shifted n None = refl
shifted n (Some k) = let e : n + suc k ≡ suc n + k = omega arith in ap (λ k. Some (suc k)) e

hit_at : {X Y : Type 0} (f : X → Y) (p : Y → Bool) (xs : List X) (m n : ℕ) (d : X) → n < length xs
    → p (f (get_or xs n d)) ≡ true → option_map (λ k. suc (m + k)) (position p (drop n (map f xs))) ≡ Some (suc m)
hit_at f p [] m n d l t = absurd (omega (arith, l))
hit_at f p (x ∷ xs) m zero d l t =
    let e : m + 0 ≡ m = omega arith in
    ap (option_map (λ k. suc (m + k))) (position_head p (f x) (map f xs) t) ∙ ap (λ k. Some (suc k)) e
hit_at f p (x ∷ xs) m (suc n) d l t = hit_at f p xs m n d (omega (arith, l)) t

step_at : {X Y : Type 0} (f : X → Y) (p : Y → Bool) (xs : List X) (m n : ℕ) (d : X) → n < length xs
    → p (f (get_or xs n d)) ≡ false →
    option_map (λ k. suc (m + k)) (position p (drop n (map f xs))) ≡ option_map (λ k. suc (suc m + k))
    (position p (drop (suc n) (map f xs)))
step_at f p [] m n d l t = absurd (omega (arith, l))
step_at f p (x ∷ xs) m zero d l t =
    ap (option_map (λ k. suc (m + k))) (position_next p (f x) (map f xs) t) ∙ shifted m (position p (map f xs))
step_at f p (x ∷ xs) m (suc n) d l t = step_at f p xs m n d (omega (arith, l)) t

-- the number of the first behind a number
abbrev pub found : {X : Type 0} → (X → Bool) → List X → ℕ → Option ℕ
found p xs n = option_map (λ k. suc (n + k)) (position p (drop n xs))

pub found_here : {X Y : Type 0} (f : X → Y) (p : Y → Bool) (xs : List X) (n : ℕ) (d : X) → n < length xs
    → p (f (get_or xs n d)) ≡ true → found p (map f xs) n ≡ Some (n + 1)
found_here f p xs n d l t =
    let e : suc n ≡ n + 1 = omega arith in
    hit_at f p xs n n d l t ∙ ap Some e

pub found_on : {X Y : Type 0} (f : X → Y) (p : Y → Bool) (xs : List X) (n : ℕ) (d : X) → n < length xs
    → p (f (get_or xs n d)) ≡ false → found p (map f xs) n ≡ found p (map f xs) (n + 1)
found_on f p xs n d l t =
    let e : suc n ≡ n + 1 = omega arith in
    step_at f p xs n n d l t ∙ ap (found p (map f xs)) e

pub found_none : {X Y : Type 0} (f : X → Y) (p : Y → Bool) (xs : List X) (n : ℕ) → length xs ≤ n
    → found p (map f xs) n ≡ None
found_none f p xs n h = rw (drop_all n (map f xs) (omega (arith, h, length-map xs f))) refl

any_at : {X Y : Type 0} (f : X → Y) (p : Y → Bool) (xs : List X) (n : ℕ) (d : X) → n < length xs
    → list_any p (drop n (map f xs)) ≡ (p (f (get_or xs n d)) || list_any p (drop (suc n) (map f xs)))
any_at f p [] n d l = absurd (omega (arith, l))
any_at f p (x ∷ xs) zero d l = refl
any_at f p (x ∷ xs) (suc n) d l = any_at f p xs n d (omega (arith, l))

-- the same of whether there is any
pub any_on : {X Y : Type 0} (f : X → Y) (p : Y → Bool) (xs : List X) (n : ℕ) (d : X) → n < length xs
    → list_any p (drop n (map f xs)) ≡ (p (f (get_or xs n d)) || list_any p (drop (n + 1) (map f xs)))
any_on f p xs n d l =
    let e : suc n ≡ n + 1 = omega arith in
    any_at f p xs n d l ∙ ap (λ k. p (f (get_or xs n d)) || list_any p (drop k (map f xs))) e

pub any_none : {X Y : Type 0} (f : X → Y) (p : Y → Bool) (xs : List X) (n : ℕ) → length xs ≤ n
    → list_any p (drop n (map f xs)) ≡ false
any_none f p xs n h = rw (drop_all n (map f xs) (omega (arith, h, length-map xs f))) refl
