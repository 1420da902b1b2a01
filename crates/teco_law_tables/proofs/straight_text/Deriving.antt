-- What is known along a straight text is derived.
use Rattle.teco_law_tables.proofs.Prelude.{◌≡◌, ℕ, suc, ◌+◌, ◌<◌, ◌≤◌, ◌==◌, List, [], ◌∷◌, ◌++◌, true, false, Some}
use Rattle.teco_law_tables.proofs.Prelude.{None, Ok, refl, rules, arith, AllByRecursion, Facts, LIMIT, Element, Stand}
use Rattle.teco_law_tables.proofs.Prelude.{Node, beginning, transfer, derive, IsStraightElement, inserted_by, inserted}
use Rattle.teco_law_tables.proofs.Prelude.{call_element, stand_in_text, node_going_on, nodes_in_text, straight_nodes}
use Rattle.teco_law_tables.proofs.Prelude.{facts_behind_insertions, rows_in_text, goes_on, placed, changes_in}
use Rattle.teco_verifier.specs.table.Deriving.{Arrival, met, derived_at, derive_from}
use Rattle.teco_law_tables.specs.straight_text.Facts.{row_behind_insertions}
use Rattle.teco_law_tables.specs.straight_text.Facts.{StraightTablesAreDerived}
use Rattle.teco_law_tables.proofs.straight_text.Within.{inserted_within}
use Rattle.teco_law_tables.proofs.Prelude.{same_number}
use Rattle.teco_law_tables.proofs.straight_text.Edging.{edges_of_element, arriving_by_element}

-- Edges arrive one at each number.
abbrev arrival_at : ℕ → Facts → Arrival
arrival_at number facts = record { target = number; facts = facts }

abbrev AreBelow : ℕ → List Arrival → Type 0
AreBelow number arrivals = AllByRecursion (λ (arrival : Arrival). arrival.target < number) arrivals

differ : (n m : ℕ) → n < m → (n == m) ≡ false
differ n m h = search rules

met_here : (number : ℕ) (before : List Arrival) (facts : Facts) → AreBelow number before
    → met number (before ++ arrival_at number facts ∷ []) None ≡ Ok (Some facts)
met_here number [] facts b = rw (same_number number) refl
met_here number (arrival ∷ before) facts b = rw (differ arrival.target number b.0) (met_here number before facts b.1)

below_next : (number : ℕ) (before : List Arrival) (facts : Facts) → AreBelow number before
    → AreBelow (suc number) (before ++ arrival_at number facts ∷ [])
below_next number [] facts b = (omega arith, tt)
below_next number (arrival ∷ before) facts b = (omega (arith, b.0), below_next number before facts b.1)

call_derived : (nodes : List Node) (entry : ℕ) →
    derived_at nodes [] 1 (node_going_on entry 1 (beginning entry) (Some (call_element entry)) true)
    (Some (facts_behind_insertions 0))
    ≡ Ok (record { row = row_behind_insertions 0; arrivals = arrival_at 2 (facts_behind_insertions 0) ∷ [] })
unfolding transfer
call_derived nodes entry = refl

element_derived : (nodes : List Node) (entry number : ℕ) (stand : Stand) (e : Element) (count : ℕ) → IsStraightElement e
    → count + inserted_by e ≤ LIMIT →
    derived_at nodes [] number (node_going_on entry number stand (Some e) false) (Some (facts_behind_insertions count))
    ≡ Ok (record {
      row = row_behind_insertions count;
      arrivals = arrival_at (suc number) (facts_behind_insertions (count + inserted_by e)) ∷ [];
    })
element_derived nodes entry number stand e count s l =
    rw (edges_of_element (placed nodes (node_going_on entry number stand (Some e) false) e) count s l)
    (rw (arriving_by_element (changes_in nodes number) e (goes_on (facts_behind_insertions (count + inserted_by e))) s)
    refl)

rows_derived : (nodes : List Node) (entry number place : ℕ) (text : List ℕ) (count : ℕ) (before : List Arrival)
    (elements : List Element) → AllByRecursion IsStraightElement elements → count + inserted elements ≤ LIMIT
    → AreBelow number before →
    derive_from nodes [] number (nodes_in_text entry text number place elements)
    (before ++ arrival_at number (facts_behind_insertions count) ∷ []) ≡ Ok (rows_in_text count elements)
rows_derived nodes entry number place text count before [] s l b =
    rw (met_here number before (facts_behind_insertions count) b) refl
rows_derived nodes entry number place text count before (e ∷ elements) s l b =
    rw (met_here number before (facts_behind_insertions count) b)
    (rw (element_derived nodes entry number (stand_in_text entry text place) e count s.0 (omega (arith, l)))
    (rw (rows_derived nodes entry (suc number) e.next text (count + inserted_by e)
    (before ++ arrival_at number (facts_behind_insertions count) ∷ []) elements s.1 (omega (arith, l))
    (below_next number before (facts_behind_insertions count) b)) refl))

pub straight_tables_are_derived : StraightTablesAreDerived
unfolding derive
straight_tables_are_derived library entry text elements is l =
    let nodes = straight_nodes entry text elements in
    rw (call_derived nodes entry)
    (rw (rows_derived nodes entry 2 0 text 0 (arrival_at 1 (facts_behind_insertions 0) ∷ []) elements is.straight
    (omega (arith, l, inserted_within text elements is.read)) (omega arith, tt)) refl)
