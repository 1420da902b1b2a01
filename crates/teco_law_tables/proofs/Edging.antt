-- The edge that goes on behind an element fits, where what is known at the nodes does.
use Rattle.teco_law_tables.proofs.Prelude.{◌≡◌, ℕ, zero, suc, refl, sym, ap, ◌∙◌, subst, arith, List, length, nat_lt}
use Rattle.teco_law_tables.proofs.Prelude.{false, Option, Some, None, MatchOption, Result, Ok, slice_get, ⊤, ltb-false}
use Rattle.teco_law_tables.proofs.Prelude.{Kind, Element, Library, AreLinked, Node, stands, numbered, base_of, ways_at}
use Rattle.teco_law_tables.proofs.Prelude.{RefusalReason, arguments_of, Facts, Edges, Fits, FitsOn, edges_at, along}
use Rattle.teco_law_tables.proofs.Prelude.{along_kind, turns_by_kind, begins_turn, check_nodes, Table, facts_at, bound}
use Rattle.teco_law_tables.proofs.Prelude.{node_of}
use Rattle.teco_model.specs.declared.kind.Flow.TheVariants as flow
use Rattle.teco_model.specs.declared.kind.Kind.TheVariants as kind
use Rattle.teco_verifier.specs.facts.Flows.{without_value}
use Rattle.teco_law_tables.proofs.Entering.{kind_edges, enters}
use Rattle.teco_law_tables.proofs.Fitting.{fits_covered}
use Rattle.teco_law_tables.proofs.Going.{way_covered, way_within}
use Rattle.teco_law_runs.proofs.Targets.{on_way, way_there}

on_of : (r : Result Edges RefusalReason) (edges other : Edges) → r ≡ Ok edges → r ≡ Ok other → edges.on ≡ other.on
on_of r edges other h g = let e : r ≡ Ok other = g in let f : edges ≡ other = same (sym h ∙ g) in
    ap (λ (edges : Edges). edges.on) f
  where
    same : Path (Result Edges RefusalReason) (Ok edges) (Ok other) → edges ≡ other
    same e = cc

module _ (library : Library) (entry : ℕ) (nodes : List Node) (table : Table) (n : ℕ)
    (are : AreLinked library entry nodes) (passes : check_nodes nodes table ≡ Ok tt)
    (fit : (k : ℕ) (node : Node) (facts : Facts) → numbered nodes k ≡ Some node → facts_at table k ≡ Some facts
    → Fits n facts) where
  fits_at : (target : ℕ) (facts : Facts) → nat_lt (length nodes) target ≡ false → facts_at table target ≡ Some facts
      → Fits n facts
  fits_at zero facts l known = absurd (cc)
  fits_at (suc k) facts l known = let there =
      node_of nodes (suc k) (omega arith) (omega (arith, ltb-false (length nodes) (suc k) l)) in
      fit (suc k) there.0 facts there.1 known

  module _ (number : ℕ) (node : Node) (e : Element) (facts : Facts) (edges : Edges) (reads : node.element ≡ Some e)
      (at : numbered nodes number ≡ Some node) (known : facts_at table number ≡ Some facts)
      (leads : edges_at nodes node facts ≡ Ok edges) where
    on_fits : (way target : ℕ) → begins_turn node.element way ≡ false → along node.element way edges ≡ edges.on
        → slice_get node.ways way ≡ Some target → (o : Option Facts) → edges.on ≡ o → MatchOption o ⊤ (Fits n)
    on_fits way target turn is taken None on = tt
    on_fits way target turn is taken (Some next) on =
        let within = way_within nodes table number node e facts next edges way target reads passes at known leads taken
        turn (is ∙ on) in
        let covered = way_covered nodes table number node facts next edges way target passes at known leads taken turn
        (is ∙ on) within in
        fits_covered n covered.facts next covered.covered (fits_at target covered.facts within covered.known)

    by_way : (k : Kind) → e.kind ≡ k → turns_by_kind k (on_way k) ≡ false → along_kind k (on_way k) edges ≡ edges.on
        → FitsOn n edges
    by_way k is turn on =
        let linked = are.each number node at in
        let there = way_there library e node.stand.position linked.targets (stands nodes entry)
        (base_of node.element number node.stand.iterations) number node.stand node.ways
        (ap (λ read. ways_at library read node.stand.position) (sym reads) ∙ linked.goes) linked.leads in
        on_fits (on_way k) there.0
        (ap (λ read. begins_turn read (on_way k)) reads ∙ (ap (λ k'. turns_by_kind k' (on_way k)) is ∙ turn))
        (ap (λ read. along read (on_way k) edges) reads ∙ (ap (λ k'. along_kind k' (on_way k) edges) is ∙ on))
        (ap (λ k. slice_get node.ways (on_way k)) (sym is) ∙ there.1) edges.on refl

    entered_fits : e.kind ≡ kind.Flow flow.Iterate → (o : Option Facts) → edges.on ≡ o → MatchOption o ⊤ (Fits n)
    entered_fits is None on = tt
    entered_fits is (Some next) on =
        let fits = fit number node facts at known in
        let entering = enters nodes node e facts next edges reads is leads on in
        subst (Fits n) (sym entering.is) (record { buffer = fits.buffer; texts = fits.texts })

    none_fits : edges.on ≡ None → FitsOn n edges
    none_fits h = subst (λ o. MatchOption o ⊤ (Fits n)) (sym h) tt

    kind_fits : (k : Kind) → e.kind ≡ k → FitsOn n edges
    kind_fits (kind.Flow flow.Iterate) is = entered_fits is edges.on refl
    kind_fits (kind.Flow flow.Otherwise) is =
        none_fits (on_of _ edges _ (kind_edges nodes node e (kind.Flow flow.Otherwise) facts edges reads is leads) refl)
    kind_fits (kind.Flow (flow.GoAhead g)) is =
        none_fits (on_of _ edges _ (kind_edges nodes node e (kind.Flow (flow.GoAhead g)) facts edges reads is leads)
        refl)
    kind_fits (kind.Flow flow.GoTo) is =
        let taken = bound (arguments_of facts.arguments.level) _ edges
        (kind_edges nodes node e (kind.Flow flow.GoTo) facts edges reads is leads) in
        let alone = bound (without_value taken.before.value) _ edges taken.gives in
        none_fits (on_of _ edges _ alone.gives refl)
    kind_fits k is = by_way k is refl refl

    pub edges_fit : FitsOn n edges
    edges_fit = kind_fits e.kind refl
