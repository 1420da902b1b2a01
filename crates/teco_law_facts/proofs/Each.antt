-- Lists of which something is known at each place.
use Rattle.teco_law_facts.proofs.Prelude.{◌≡◌, ℕ, zero, suc, ◌<◌, ◌≤◌, arith, List, [], ◌∷◌, length, get_or, set}
use Rattle.teco_law_facts.proofs.Prelude.{AllByRecursion, Pair, Polynomial, value, AreEach, IsWithin, Interval}

-- what is known of a pair's number, and of its text
abbrev pub IsNumber : Interval → Pair → Type 0
IsNumber i pair = IsWithin i pair.number

abbrev pub IsText : ℕ → Polynomial → Pair → Type 0
IsText n most pair = length pair.text ≤ value most n

-- at a place, and at one that is not there
pub each_at : {X Y : Type 0} (P : X → Y → Type 0) (xs : List X) (ys : List Y) (d : X) (e : Y) → AreEach P xs ys → P d e
    → (r : ℕ) → P (get_or xs r d) (get_or ys r e)
each_at P [] [] d e h p r = p
each_at P (x ∷ xs) (y ∷ ys) d e h p zero = h.0
each_at P (x ∷ xs) (y ∷ ys) d e h p (suc r) = each_at P xs ys d e h.1 p r
each_at P xs ys d e h p r = absurd (grind arith)

-- both are set at a place
pub each_set : {X Y : Type 0} (P : X → Y → Type 0) (xs : List X) (ys : List Y) (r : ℕ) (x : X) (y : Y) → AreEach P xs ys
    → P x y → AreEach P (set xs r x) (set ys r y)
each_set P [] [] r x y h p = tt
each_set P (a ∷ xs) (b ∷ ys) zero x y h p = (p, h.1)
each_set P (a ∷ xs) (b ∷ ys) (suc r) x y h p = (h.0, each_set P xs ys r x y h.1 p)
each_set P xs ys r x y h p = absurd (grind arith)

-- the second alone is set
pub each_kept : {X Y : Type 0} (P : X → Y → Type 0) (xs : List X) (ys : List Y) (d : X) (r : ℕ) (y : Y)
    → AreEach P xs ys → P (get_or xs r d) y → AreEach P xs (set ys r y)
each_kept P [] [] d r y h p = tt
each_kept P (a ∷ xs) (b ∷ ys) d zero y h p = (p, h.1)
each_kept P (a ∷ xs) (b ∷ ys) d (suc r) y h p = (h.0, each_kept P xs ys d r y h.1 p)
each_kept P xs ys d r y h p = absurd (grind arith)

pub each_length : {X Y : Type 0} (P : X → Y → Type 0) (xs : List X) (ys : List Y) → AreEach P xs ys
    → length xs ≡ length ys
each_length P [] [] h = omega arith
each_length P (x ∷ xs) (y ∷ ys) h = omega (arith, each_length P xs ys h.1)
each_length P xs ys h = absurd (grind arith)

-- of all of one list
pub all_set : {X : Type 0} (P : X → Type 0) (xs : List X) (r : ℕ) (x : X) → r < length xs
    → AllByRecursion P (set xs r x) → P x
all_set P [] r x l h = absurd (omega arith)
all_set P (a ∷ xs) zero x l h = h.0
all_set P (a ∷ xs) (suc r) x l h = all_set P xs r x (omega arith) h.1
