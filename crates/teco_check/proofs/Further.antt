-- Definitions that go through the nodes, or through a node's ways and iterations, one step further.
use Rattle.teco_check.proofs.Prelude.{◌≡◌, refl, sym, ◌∙◌, ap, ℕ, zero, suc, ◌+◌, ◌-◌, ◌<◌, ◌≤◌, Bool, true, false}
use Rattle.teco_check.proofs.Prelude.{◌||◌, List, [], ◌∷◌, length, drop, slice_get, Option, Some, None, unwrap_or, Ok}
use Rattle.teco_check.proofs.Prelude.{Err, add-one, arith, if◌then◌else◌, option_map_or, drop_all, Element, first_end}
use Rattle.teco_check.proofs.Prelude.{Node, Polynomial, RefusalReason, ArgumentRange, Facts, Edges, along, begins_turn}
use Rattle.teco_check.proofs.Prelude.{arrive, check, check_from, count_from, size_from, turns_round, needs_from, Table}
use Rattle.teco_check.proofs.Prelude.{facts_at, Choice, Changes, arriving, arrivals_behind, Slots, arrived_at}
use Rattle.teco_check.proofs.Prelude.{arrived_all, no_node, node_at}
use Rattle.teco_verifier.specs.expansion.Ends.{ends}
use Rattle.teco_model.specs.Macros.{Needs}
use Rattle.teco_verifier.specs.facts.Printed.{no_needs}
use Rattle.teco_verifier.specs.table.Closed.{arrives, closed_at}
use Rattle.teco_verifier.specs.table.Printed.{counted_with, sized_with, turns_at}
use Rattle.teco_verifier.specs.table.Printed.{product_of, needs_of, both_needs}
use Rattle.teco_check.specs.declared.bad.Bad.{Bad}
use Rattle.teco_check.specs.declared.bad.Bad.TheVariants as bad
use Rattle.teco_check.specs.Onward.{onward}
use Rattle.teco_check.specs.Says.{Says, SaysAt}

front : {X : Type 0} (xs : List X) (k : ℕ) (x : X) → k < length xs
    → drop k xs ≡ unwrap_or (slice_get xs k) x ∷ drop (suc k) xs
front [] k x h = absurd (omega arith)
front (y ∷ xs) zero x h = refl
front (y ∷ xs) (suc k) x h = front xs k x (omega arith)

-- the nodes from a number on
pub nodes_from : (nodes : List Node) (k : ℕ) → k < length nodes
    → drop k nodes ≡ node_at nodes (suc k) ∷ drop (suc k) nodes
unfolding node_at
nodes_from nodes k h = front nodes k no_node h

-- the end of an iteration
module _ (nodes : List Node) (begin k : ℕ) where
  pub ends_on : k < length nodes → ends begin (node_at nodes (k + 1)) ≡ false
      → first_end begin (suc k) (drop k nodes) ≡ first_end begin (suc (k + 1)) (drop (k + 1) nodes)
  ends_on h e = let here : ends begin (node_at nodes (suc k)) ≡ false = rw add-one at e in
      rw (nodes_from nodes k h, here, add-one) refl

  pub ends_at : k < length nodes → ends begin (node_at nodes (k + 1)) ≡ true
      → first_end begin (suc k) (drop k nodes) ≡ k + 1
  ends_at h e = let here : ends begin (node_at nodes (suc k)) ≡ true = rw add-one at e in
      rw (nodes_from nodes k h, here, add-one) refl

  pub no_end : length nodes ≤ k → first_end begin (suc k) (drop k nodes) ≡ begin
  no_end h = rw (drop_all k nodes h) refl

-- what is behind a place of a list
behind : {X : Type 0} (xs : List X) (k : ℕ) (x : X) → slice_get xs k ≡ Some x → drop k xs ≡ x ∷ drop (suc k) xs
behind [] zero x e = absurd (cc)
behind [] (suc k) x e = absurd (cc)
behind (y ∷ xs) zero x e = let is : y ≡ x = cc in rw is refl
behind (y ∷ xs) (suc k) x e = behind xs k x e

pub none_behind : {X : Type 0} (xs : List X) (k : ℕ) → slice_get xs k ≡ None → length xs ≤ k
none_behind [] k e = omega arith
none_behind (y ∷ xs) zero e = absurd (cc)
none_behind (y ∷ xs) (suc k) e = let less = none_behind xs k e in omega arith

-- a way that begins a turn, or whose edge is covered
pub onward_arrives : (nodes : List Node) (table : Table) (read : Option Element) (k target : ℕ) (edges : Edges)
    → (begins_turn read k || arrives nodes table read target (along read k edges)) ≡ arrives nodes table read target
    (onward read k edges)
onward_arrives nodes table read k target edges = among (begins_turn read k) (along read k edges)
  where
    among : (begins : Bool) (edge : Option Facts)
        → (begins || arrives nodes table read target edge) ≡ arrives nodes table read target
        (if begins then None else edge)
    among true edge = refl
    among false edge = refl

-- ways
module _ (nodes : List Node) (table : Table) (read : Option Element) (edges : Edges) (k target : ℕ) (ways : List ℕ)
    (is : slice_get ways k ≡ Some target) where
  pub arrive_more : (begins_turn read k || arrives nodes table read target (along read k edges)) ≡ true
      → arrive nodes table read edges k (drop k ways) ≡ arrive nodes table read edges (k + 1) (drop (k + 1) ways)
  arrive_more e = rw (behind ways k target is, e, add-one) refl

  pub arrive_fails : (begins_turn read k || arrives nodes table read target (along read k edges)) ≡ false
      → arrive nodes table read edges k (drop k ways) ≡ false
  arrive_fails e = rw (behind ways k target is, e) refl

-- nodes that are closed
module _ (nodes : List Node) (table : Table) (k : ℕ) where
  pub check_more : k < length nodes → closed_at nodes table (k + 1) (node_at nodes (k + 1)) ≡ true
      → check_from nodes table (suc k) (drop k nodes) ≡ check_from nodes table (suc (k + 1)) (drop (k + 1) nodes)
  check_more h e = let here : closed_at nodes table (suc k) (node_at nodes (suc k)) ≡ true = rw add-one at e in
      rw (nodes_from nodes k h, here, add-one) refl

  pub check_fails : k < length nodes → closed_at nodes table (k + 1) (node_at nodes (k + 1)) ≡ false
      → check_from nodes table (suc k) (drop k nodes) ≡ Err (k + 1)
  check_fails h e = let here : closed_at nodes table (suc k) (node_at nodes (suc k)) ≡ false = rw add-one at e in
      rw (nodes_from nodes k h, here, add-one) refl

-- nodes that are counted
module _ (nodes : List Node) (table : Table) (k : ℕ) (total : Polynomial) where
  pub count_more : (more : Polynomial) → k < length nodes
      → counted_with table (k + 1) (node_at nodes (k + 1)) total ≡ Ok more
      → count_from table (suc k) (drop k nodes) total ≡ count_from table (suc (k + 1)) (drop (k + 1) nodes) more
  count_more more h e = let here : counted_with table (suc k) (node_at nodes (suc k)) total ≡ Ok more =
      rw add-one at e in rw (nodes_from nodes k h, here, add-one) refl

  pub count_fails : (why : RefusalReason) → k < length nodes
      → counted_with table (k + 1) (node_at nodes (k + 1)) total ≡ Err why
      → count_from table (suc k) (drop k nodes) total ≡ Err (k + 1)
  count_fails why h e = let here : counted_with table (suc k) (node_at nodes (suc k)) total ≡ Err why =
      rw add-one at e in rw (nodes_from nodes k h, here, add-one) refl

  pub size_more : (more : Polynomial) → k < length nodes → sized_with (facts_at table (suc k)) total ≡ Ok more
      → size_from table (suc k) (drop k nodes) total ≡ size_from table (suc (k + 1)) (drop (k + 1) nodes) more
  size_more more h e = rw (nodes_from nodes k h, e, add-one) refl

  pub size_fails : (why : RefusalReason) → k < length nodes → sized_with (facts_at table (suc k)) total ≡ Err why
      → size_from table (suc k) (drop k nodes) total ≡ Err (k + 1)
  size_fails why h e = rw (nodes_from nodes k h, e, add-one) refl

-- iterations round a node, the outermost first
module _ (table : Table) (iterations : List ℕ) (k begin : ℕ) (is : slice_get iterations (k - 1) ≡ Some begin)
    (positive : 0 < k) where
  from_here : drop (k - 1) iterations ≡ begin ∷ drop k iterations
  from_here = let same : suc (k - 1) ≡ k = omega arith in behind iterations (k - 1) begin is
      ∙ ap (λ k. begin ∷ drop k iterations) same

  pub round_more : (rounds most next : Polynomial) → turns_round table (drop k iterations) ≡ Ok rounds
      → turns_at table begin ≡ Ok most → product_of most rounds ≡ Ok next
      → turns_round table (drop (k - 1) iterations) ≡ Ok next
  round_more rounds most next d e f = rw (from_here, d, e, f) refl

  pub round_refused : (rounds : Polynomial) (why : RefusalReason) → turns_round table (drop k iterations) ≡ Ok rounds
      → turns_at table begin ≡ Err why → turns_round table (drop (k - 1) iterations) ≡ Err why
  round_refused rounds why d e = rw (from_here, d, e) refl

  pub round_overflows : (rounds most : Polynomial) (why : RefusalReason)
      → turns_round table (drop k iterations) ≡ Ok rounds
      → turns_at table begin ≡ Ok most → product_of most rounds ≡ Err why
      → turns_round table (drop (k - 1) iterations) ≡ Err why
  round_overflows rounds most why d e f = rw (from_here, d, e, f) refl

pub refused_inside : (table : Table) (iterations : List ℕ) (k : ℕ) (why : RefusalReason)
    → turns_round table (drop k iterations) ≡ Err why → turns_round table iterations ≡ Err why
refused_inside table [] zero why e = e
refused_inside table [] (suc k) why e = e
refused_inside table (begin ∷ outer) zero why e = e
refused_inside table (begin ∷ outer) (suc k) why e = rw (refused_inside table outer k why e) refl

-- needs of the nodes from the last on
pub needs_more : (nodes : List Node) (table : Table) (k : ℕ) (needs : Needs) → 0 < k → k ≤ length nodes
    → needs ≡ needs_from table (suc k) (drop k nodes)
    → both_needs (option_map_or (needs_of (node_at nodes (k - 1 + 1)).element) (facts_at table (k - 1 + 1)) no_needs)
    needs ≡ needs_from table (suc (k - 1)) (drop (k - 1) nodes)
needs_more nodes table zero needs h l e = absurd (omega arith)
needs_more nodes table (suc k) needs h l e =
    let same : suc k - 1 ≡ k = omega arith in
    let within : k < length nodes = omega arith in
    rw (same, nodes_from nodes k within, e, add-one) refl

-- what is said of a node is said of the whole
pub says_of : (argument : Option ArgumentRange) (nodes : List Node) (table : Table) (k : ℕ) (why : Bad)
    → k < length nodes → check argument nodes table ≡ check_from nodes table (suc k) (drop k nodes)
    → SaysAt (k + 1) (closed_at nodes table (k + 1) (node_at nodes (k + 1))) (Err why)
    → Says (check argument nodes table) (Err why)
says_of argument nodes table k (bad.Edge node) h e s = e ∙ check_fails nodes table k h s.0 ∙ ap Err (sym s.1)
says_of argument nodes table k bad.Memory h e s = tt

-- edges that arrive
module _ (changes : Changes) (choice : Option Choice) (read : Option Element) (edges : Edges) (k target : ℕ)
    (ways : List ℕ) (slots : Slots) (is : slice_get ways k ≡ Some target) where
  pub some_arrives : (facts : Facts) → arriving changes choice read k edges ≡ Some facts
      → arrived_all (arrivals_behind changes choice read k (drop k ways) edges) slots ≡ arrived_all
      (arrivals_behind changes choice read (k + 1) (drop (k + 1) ways) edges) (arrived_at target facts slots)
  some_arrives facts e = rw (behind ways k target is, e, add-one) refl

  pub none_arrives : arriving changes choice read k edges ≡ None
      → arrived_all (arrivals_behind changes choice read k (drop k ways) edges) slots ≡ arrived_all
      (arrivals_behind changes choice read (k + 1) (drop (k + 1) ways) edges) slots
  none_arrives e = rw (behind ways k target is, e, add-one) refl
