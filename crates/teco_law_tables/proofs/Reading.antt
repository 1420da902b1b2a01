-- What a check that passed says at a node.
use Rattle.teco_law_tables.proofs.Prelude.{◌≡◌, ℕ, zero, suc, ◌+◌, refl, sym, ap, ◌∙◌, subst, arith, List, [], ◌∷◌}
use Rattle.teco_law_tables.proofs.Prelude.{Bool, true, false, ◌||◌, if◌then◌else◌, Option, Some, None, Result, Ok, Err}
use Rattle.teco_law_tables.proofs.Prelude.{slice_get, IsTrue, Facts, Element, end_of, Node, numbered, Polynomial}
use Rattle.teco_law_tables.proofs.Prelude.{and_both, RefusalReason, Choice, body_start, Edges, edges_at, say_same}
use Rattle.teco_law_tables.proofs.Prelude.{is_entry}
use Rattle.teco_law_tables.proofs.Prelude.{is_counted, body_stands, is_entered, enters_by, enters_at, closed_behind}
use Rattle.teco_law_tables.proofs.Prelude.{begins_by_kind, begins_iteration, closed_where, closed_at, check_from}
use Rattle.teco_law_tables.proofs.Prelude.{check_nodes, check, Table, facts_at, choice_at, changes_in, ArgumentRange}
use Rattle.std.proofs.Common.{is_none, not}
use Rattle.teco_model.specs.declared.kind.Flow.TheVariants as flow
use Rattle.teco_model.specs.declared.kind.Kind.TheVariants as kind
use Rattle.teco_verifier.specs.facts.Bodies.{stands}
use Rattle.teco_verifier.specs.facts.Flows.{turns}

module _ (nodes : List Node) (table : Table) where
  checked_node : (k j : ℕ) (rest : List Node) (node : Node) → check_from nodes table k rest ≡ Ok tt
      → slice_get rest j ≡ Some node → closed_at nodes table (k + j) node ≡ true
  checked_node k j [] node h at = absurd (cc)
  checked_node k zero (x ∷ rest) node h at =
      let e : x ≡ node = cc in
      let z : k ≡ k + 0 = omega arith in
      subst (λ m. closed_at nodes table m node ≡ true) z
      (subst (λ (x : Node). closed_at nodes table k x ≡ true) e (passes (closed_at nodes table k x) refl h))
    where
      passes : (b : Bool) → closed_at nodes table k x ≡ b
          → (if b then check_from nodes table (suc k) rest else Err k) ≡ Ok tt → closed_at nodes table k x ≡ true
      passes true e h = e
      passes false e h = absurd (cc)
  checked_node k (suc j) (x ∷ rest) node h at =
      let s : suc k + j ≡ k + suc j = omega arith in
      subst (λ m. closed_at nodes table m node ≡ true) s
      (checked_node (suc k) j rest node (passes (closed_at nodes table k x) refl h) at)
    where
      passes : (b : Bool) → closed_at nodes table k x ≡ b
          → (if b then check_from nodes table (suc k) rest else Err k) ≡ Ok tt
          → check_from nodes table (suc k) rest ≡ Ok tt
      passes true e h = h
      passes false e h = absurd (cc)

  passes_entry : (b : Bool) (r : Result (Unit {0}) ℕ) → (if b then r else Err 1) ≡ Ok tt → (b ≡ true) × (r ≡ Ok tt)
  passes_entry true r h = (refl, h)
  passes_entry false r h = absurd (cc)

  pub entry_checked : (argument : Option ArgumentRange) → check argument nodes table ≡ Ok tt
      → is_entry argument (facts_at table 1) ≡ true
  unfolding check
  entry_checked argument h = (passes_entry (is_entry argument (facts_at table 1)) (check_nodes nodes table) h).0

  pub nodes_checked : (argument : Option ArgumentRange) → check argument nodes table ≡ Ok tt
      → check_nodes nodes table ≡ Ok tt
  unfolding check
  nodes_checked argument h = (passes_entry (is_entry argument (facts_at table 1)) (check_nodes nodes table) h).1

  pub node_checked : (k : ℕ) (node : Node) → check_nodes nodes table ≡ Ok tt → numbered nodes k ≡ Some node
      → closed_at nodes table k node ≡ true
  unfolding check_nodes
  node_checked zero node h at = absurd (cc)
  node_checked (suc k) node h at =
      let s : 1 + k ≡ suc k = omega arith in
      subst (λ m. closed_at nodes table m node ≡ true) s (checked_node 1 k nodes node h at)

  -- ---- a body that is entered
  pub record Body (begin : ℕ) (node : Node) (start : Facts) : Type 0 where
    pub facts : Facts
    pub edges : Edges
    pub entering : Facts
    pub choice : Choice
    pub most : Polynomial
    pub known : facts_at table begin ≡ Some facts
    pub leads : edges_at nodes node facts ≡ Ok edges
    pub on : edges.on ≡ Some entering
    pub chosen : choice_at table begin ≡ Some choice
    pub turns_are : turns facts ≡ Ok most
    pub same : IsTrue (say_same start (body_start choice (changes_in nodes begin) entering))
    pub stands_there : IsTrue (stands choice (changes_in nodes begin) (is_counted entering.iterations) most entering
        (facts_at table (end_of nodes begin)))

  module _ (begin : ℕ) (node : Node) (start : Facts) (there : facts_at table (suc begin) ≡ Some start) where
    stand_of_body : (facts : Facts) (edges : Edges) (entering : Facts) → facts_at table begin ≡ Some facts
        → edges_at nodes node facts ≡ Ok edges → edges.on ≡ Some entering →
        (c : Option Choice) → choice_at table begin ≡ c → (r : Result Polynomial RefusalReason) → turns facts ≡ r
        → body_stands (changes_in nodes begin) (facts_at table (end_of nodes begin)) entering
        (Some start) c r ≡ true → Body begin node start
    stand_of_body facts edges entering known leads on (Some choice) chosen (Ok most) t h =
        let p = and_both _ _ h in
        record {
          facts = facts;
          edges = edges;
          entering = entering;
          choice = choice;
          most = most;
          known = known;
          leads = leads;
          on = on;
          chosen = chosen;
          turns_are = t;
          same = p.0;
          stands_there = p.1;
        }
    stand_of_body facts edges entering known leads on c chosen r t h = absurd (grind arith)

    on_body : (facts : Facts) (edges : Edges) → facts_at table begin ≡ Some facts
        → edges_at nodes node facts ≡ Ok edges →
        (o : Option Facts) → edges.on ≡ o → is_entered nodes table begin facts o ≡ true → Body begin node start
    on_body facts edges known leads None on h = let z : false ≡ true = ap is_none (sym there) ∙ h in absurd (cc)
    on_body facts edges known leads (Some entering) on h =
        stand_of_body facts edges entering known leads on _ refl _ refl
        (ap (λ (o : Option Facts). body_stands (changes_in nodes begin) (facts_at table (end_of nodes begin)) entering o
        (choice_at table begin) (turns facts)) (sym there) ∙ h)

    module _ (e : Element) (reads : node.element ≡ Some e) (is : e.kind ≡ kind.Flow flow.Iterate) where
      behind_body : (facts : Facts) → facts_at table begin ≡ Some facts → (r : Result Edges RefusalReason)
          → edges_at nodes node facts ≡ r → closed_behind nodes table begin node facts r ≡ true → Body begin node start
      behind_body facts known (Err why) leads h = absurd (cc)
      behind_body facts known (Ok edges) leads h =
          let p = and_both _ _ h in
          let one = ap (enters_at nodes table begin facts edges) reads in
          let two = ap (enters_by nodes table begin facts edges) is in
          on_body facts edges known leads edges.on refl (sym two ∙ (sym one ∙ p.0))

      where_body : (o : Option Facts) → facts_at table begin ≡ o → closed_where nodes table begin node o ≡ true
          → Body begin node start
      where_body None known h =
          let one : begins_iteration node.element ≡ true = ap begins_iteration reads ∙ ap begins_by_kind is in
          let two : (not true || is_none (Some start)) ≡ true = ap (λ b. not b || is_none (Some start)) (sym one)
          ∙ (ap (λ (o : Option Facts). not (begins_iteration node.element) || is_none o) (sym there) ∙ h) in
          absurd (cc)
      where_body (Some facts) known h = behind_body facts known _ refl (and_both _ _ h).1

      pub body_is : check_nodes nodes table ≡ Ok tt → numbered nodes begin ≡ Some node → Body begin node start
      body_is h at = where_body _ refl (node_checked begin node h at)
