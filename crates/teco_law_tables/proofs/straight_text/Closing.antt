-- The table of a straight text is closed.
use Rattle.teco_law_tables.proofs.Prelude.{◌≡◌, ℕ, suc, ◌+◌, ◌≤◌, min, nat_le, nat_lt, List, [], ◌∷◌, drop, length}
use Rattle.teco_law_tables.proofs.Prelude.{true, false, Some, None, Ok, refl, rules, arith, ◌<◌, AllByRecursion, Facts}
use Rattle.teco_law_tables.proofs.Prelude.{LIMIT, DropAll, Text, Kind, Element, Node, beginning, covers, Edges, goes_on}
use Rattle.teco_law_tables.proofs.Prelude.{transfer, placed, begins_turn, along, arrives, enters_at, closed_at}
use Rattle.teco_law_tables.proofs.Prelude.{check_from, check_nodes, check, Table, facts_at, IsStraightKind}
use Rattle.teco_law_tables.proofs.Prelude.{IsStraightElement, inserted_by, inserted, call_element, stand_in_text}
use Rattle.teco_law_tables.proofs.Prelude.{node_going_on, nodes_in_text, straight_nodes, facts_behind_insertions}
use Rattle.teco_law_tables.proofs.Prelude.{rows_in_text, straight_table}
use Rattle.teco_model.specs.declared.kind.Command.TheVariants as command
use Rattle.teco_model.specs.declared.kind.Flow.TheVariants as flow
use Rattle.teco_model.specs.declared.kind.Kind.TheVariants as kind
use Rattle.teco_law_tables.specs.straight_text.Accepted.{StraightTablesAreClosed}
use Rattle.teco_law_tables.proofs.straight_text.Alike.{drop-behind}
use Rattle.teco_law_tables.proofs.straight_text.Edging.{edges_of_element}
use Rattle.teco_law_tables.proofs.straight_text.Lookup.{facts_there, length-nodes}
use Rattle.teco_law_tables.proofs.straight_text.Within.{inserted_within}

covers_itself : (count : ℕ) → covers (facts_behind_insertions count) (facts_behind_insertions count) ≡ true
covers_itself count =
    let back : nat_le (min count LIMIT) (min count LIMIT) ≡ true = search rules in
    let held : nat_le count count ≡ true = search rules in rw (back, held) refl

-- an element enters no body, and begins no turn
record GoesOn (nodes : List Node) (table : Table) (number : ℕ) (facts : Facts) (e : Element) (edges : Edges) :
    Type 0 where
  enters : enters_at nodes table number facts edges (Some e) ≡ true
  turns : begins_turn (Some e) 0 ≡ false
  goes : along (Some e) 0 edges ≡ edges.on

kind_goes_on : (nodes : List Node) (table : Table) (number : ℕ) (facts : Facts) (k : Kind) (e : Element) (edges : Edges)
    → IsStraightKind k → GoesOn nodes table number facts (record e { kind = k }) edges
kind_goes_on nodes table number facts (kind.Argument DropAll) e edges s =
    record { enters = refl; turns = refl; goes = refl }
kind_goes_on nodes table number facts (kind.Flow flow.Comment) e edges s =
    record { enters = refl; turns = refl; goes = refl }
kind_goes_on nodes table number facts (kind.Command (command.Insertion Text)) e edges s =
    record { enters = refl; turns = refl; goes = refl }
kind_goes_on nodes table number facts k e edges s = absurd s

-- an edge to the next node is covered
arrives_next : (nodes : List Node) (table : Table) (e : Element) (target count : ℕ) → target ≤ length nodes
    → facts_at table target ≡ Some (facts_behind_insertions count) →
    arrives nodes table (Some e) target (Some (facts_behind_insertions count)) ≡ true
arrives_next nodes table e target count l f =
    let inside : nat_lt (length nodes) target ≡ false = search rules in rw (inside, f) (covers_itself count)

call_closed : (nodes : List Node) (table : Table) (entry : ℕ) → 2 ≤ length nodes
    → facts_at table 1 ≡ Some (facts_behind_insertions 0) → facts_at table 2 ≡ Some (facts_behind_insertions 0) →
    closed_at nodes table 1 (node_going_on entry 1 (beginning entry) (Some (call_element entry)) true) ≡ true
unfolding transfer
call_closed nodes table entry l here next =
    rw here (rw (arrives_next nodes table (call_element entry) 2 0 l next) refl)

element_closed : (nodes : List Node) (table : Table) (entry m place : ℕ) (text : List ℕ) (count : ℕ) (e : Element)
    → IsStraightElement e → count + inserted_by e ≤ LIMIT → suc (suc m) ≤ length nodes →
    facts_at table (suc m) ≡ Some (facts_behind_insertions count)
    → facts_at table (suc (suc m)) ≡ Some (facts_behind_insertions (count + inserted_by e)) →
    closed_at nodes table (suc m) (node_going_on entry (suc m) (stand_in_text entry text place) (Some e) false) ≡ true
element_closed nodes table entry m place text count e s i l here next =
    let node = node_going_on entry (suc m) (stand_in_text entry text place) (Some e) false in
    let more = facts_behind_insertions (count + inserted_by e) in
    let is = kind_goes_on nodes table (suc m) (facts_behind_insertions count) e.kind e (goes_on more) s in
    rw (here, edges_of_element (placed nodes node e) count s i)
    (rw (is.enters, is.turns, is.goes)
    (rw (arrives_next nodes table e (suc (suc m)) (count + inserted_by e) l next) refl))

end_closed : (nodes : List Node) (table : Table) (entry m place : ℕ) (text : List ℕ) (count : ℕ) → suc m ≡ length nodes
    → facts_at table (suc m) ≡ Some (facts_behind_insertions count) →
    closed_at nodes table (suc m) (node_going_on entry (suc m) (stand_in_text entry text place) None false) ≡ true
end_closed nodes table entry m place text count l here =
    let behind : nat_lt (length nodes) (suc (suc m)) ≡ true =
    (let small : length nodes < suc (suc m) = omega (arith, l) in search rules) in
    rw (here, behind) refl

rows_closed : (nodes : List Node) (table : Table) (entry m place : ℕ) (text : List ℕ) (count : ℕ)
    (elements : List Element) → AllByRecursion IsStraightElement elements → count + inserted elements ≤ LIMIT
    → suc m + length elements ≡ length nodes → drop m table ≡ rows_in_text count elements →
    check_from nodes table (suc m) (nodes_in_text entry text (suc m) place elements) ≡ Ok tt
rows_closed nodes table entry m place text count [] s i l d =
    rw (end_closed nodes table entry m place text count (omega (arith, l)) (facts_there table m count [] d)) refl
rows_closed nodes table entry m place text count (e ∷ elements) s i l d =
    let behind : drop (suc m) table ≡ rows_in_text (count + inserted_by e) elements =
    drop-behind m table (rows_in_text (count + inserted_by e) elements) _ d in
    rw (element_closed nodes table entry m place text count e s.0 (omega (arith, i)) (omega (arith, l))
    (facts_there table m count (e ∷ elements) d)
    (facts_there table (suc m) (count + inserted_by e) elements behind))
    (rows_closed nodes table entry (suc m) e.next text (count + inserted_by e) elements s.1 (omega (arith, i))
    (omega (arith, l)) behind)

pub straight_tables_are_closed : StraightTablesAreClosed
unfolding check_nodes check
straight_tables_are_closed library entry text elements is l =
    let nodes = straight_nodes entry text elements in
    let table = straight_table elements in
    let few = length-nodes entry 2 0 text elements in
    rw (call_closed nodes table entry (omega (arith, few)) refl (facts_there table 1 0 elements refl))
    (rows_closed nodes table entry 1 0 text 0 elements is.straight
    (omega (arith, l, inserted_within text elements is.read)) (omega (arith, few)) refl)
