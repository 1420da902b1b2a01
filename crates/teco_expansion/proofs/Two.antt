-- The numbers of two ways.
use Rattle.teco_expansion.proofs.Prelude.{◌≡◌, ℕ, List, [], ◌∷◌, Result, Ok, Err, ap, ◌∙◌, Visit, Walk, Library}
use Rattle.teco_expansion.proofs.Prelude.{Position, Refusal, ◌>>=◌}
use Rattle.teco_verifier.specs.expansion.Expansion.{way_numbers}
use Rattle.teco_expansion.specs.Linking.{way_number}

after : (r : Result ℕ Refusal) (way : ℕ) (f : ℕ → Result (List ℕ) Refusal) → r ≡ Ok way → r >>= f ≡ f way
after (Ok n) way f h = let e : n ≡ way = cc in ap f e
after (Err c) way f h = absurd (cc)

rest_is : (r : Result (List ℕ) Refusal) (ways : List ℕ) (way : ℕ) → r ≡ Ok ways
    → r >>= (λ ways. Ok (way ∷ ways)) ≡ Ok (way ∷ ways)
rest_is (Ok xs) ways way h = let e : xs ≡ ways = cc in ap (λ (xs : List ℕ). Ok (way ∷ xs)) e
rest_is (Err c) ways way h = absurd (cc)

rest_fails : (r : Result (List ℕ) Refusal) (c : Refusal) (way : ℕ) → r ≡ Err c → r >>= (λ ways. Ok (way ∷ ways)) ≡ Err c
rest_fails (Ok xs) c way h = absurd (cc)
rest_fails (Err d) c way h = let e : d ≡ c = cc in ap Err e

-- the first and those behind it
pub both_numbers : (library : Library) (entry : ℕ) (w : Walk) (first number : ℕ) (v : Visit) (one other : Position)
    (way : ℕ) (ways : List ℕ) → way_number entry w first number v one ≡ Ok way
    → way_numbers library entry w number number v (other ∷ []) ≡ Ok ways
    → way_numbers library entry w first number v (one ∷ other ∷ []) ≡ Ok (way ∷ ways)
unfolding way_numbers
both_numbers library entry w first number v one other way ways h g =
    after (way_number entry w first number v one) way _ h
    ∙ rest_is (way_numbers library entry w number number v (other ∷ [])) ways way g

pub second_fails : (library : Library) (entry : ℕ) (w : Walk) (first number : ℕ) (v : Visit) (one other : Position)
    (way : ℕ) (c : Refusal) → way_number entry w first number v one ≡ Ok way
    → way_numbers library entry w number number v (other ∷ []) ≡ Err c
    → way_numbers library entry w first number v (one ∷ other ∷ []) ≡ Err c
unfolding way_numbers
second_fails library entry w first number v one other way c h g = after (way_number entry w first number v one) way _ h
    ∙ rest_fails (way_numbers library entry w number number v (other ∷ [])) c way g
