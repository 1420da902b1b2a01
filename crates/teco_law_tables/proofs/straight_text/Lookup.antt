-- What the table of a straight text says at a number.
use Rattle.teco_law_tables.proofs.Prelude.{◌≡◌, ℕ, zero, suc, ◌+◌, List, [], ◌∷◌, drop, length, Some, slice_get, refl}
use Rattle.teco_law_tables.proofs.Prelude.{ap, arith, Element, Table, facts_at, nodes_in_text, inserted_by}
use Rattle.teco_law_tables.proofs.Prelude.{facts_behind_insertions, rows_in_text}

first_behind : {X : Type 0} (n : ℕ) (xs rest : List X) (x : X) → drop n xs ≡ x ∷ rest → slice_get xs n ≡ Some x
first_behind zero (y ∷ xs) rest x h = cc
first_behind (suc n) (y ∷ xs) rest x h = first_behind n xs rest x h
first_behind n xs rest x h = absurd (grind arith)

pub facts_there : (table : Table) (m count : ℕ) (elements : List Element) → drop m table ≡ rows_in_text count elements
    → facts_at table (suc m) ≡ Some (facts_behind_insertions count)
facts_there table m count [] h = rw (first_behind m table [] _ h) refl
facts_there table m count (e ∷ elements) h =
    rw (first_behind m table (rows_in_text (count + inserted_by e) elements) _ h) refl

pub length-nodes : (entry number place : ℕ) (text : List ℕ) (elements : List Element)
    → length (nodes_in_text entry text number place elements) ≡ suc (length elements)
length-nodes entry number place text [] = refl
length-nodes entry number place text (e ∷ elements) = ap suc (length-nodes entry (suc number) e.next text elements)
