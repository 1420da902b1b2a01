-- A way to the next node has the next number.
use Rattle.teco_law_tables.proofs.Prelude.{◌≡◌, ℕ, zero, suc, List, ◌∷◌, drop, Some, arith, Stand}
use Rattle.teco_law_runs.proofs.Comparing.{stand_alike}
use Rattle.teco_verifier.specs.expansion.Expansion.{number_behind}

pub next_number : (all rest : List Stand) (number : ℕ) (stand : Stand) → drop number all ≡ stand ∷ rest
    → number_behind number all stand ≡ Some (suc number)
next_number all rest number stand h = search (stand_alike, arith)

pub drop-behind : {X : Type 0} (n : ℕ) (xs rest : List X) (x : X) → drop n xs ≡ x ∷ rest → drop (suc n) xs ≡ rest
drop-behind zero (y ∷ xs) rest x h = cc
drop-behind (suc n) (y ∷ xs) rest x h = drop-behind n xs rest x h
drop-behind n xs rest x h = absurd (grind arith)
