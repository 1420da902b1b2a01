-- The iterations round the nodes, as one pass over them tells.
use Rattle.teco_law_tables.proofs.Prelude.{◌≡◌, ℕ, zero, suc, ◌≤◌, ◌<◌, refl, sym, ap, ◌∙◌, subst, arith, List, [], ◌∷◌}
use Rattle.teco_law_tables.proofs.Prelude.{drop, length, true, false, Option, Some, None, Ok, AllByRecursion}
use Rattle.teco_law_tables.proofs.Prelude.{option_map_or, Begin, onward, Flow, Kind, Element, end_of, AreClosed}
use Rattle.teco_law_tables.proofs.Prelude.{AreOpenIn, IterationsAreOpen, Library, AreLinked, Stand, Node, beginning}
use Rattle.teco_law_tables.proofs.Prelude.{numbered, Spot, Position, flow_ways, element_ways, ways_at, Table}
use Rattle.teco_law_tables.proofs.Prelude.{begins_by_kind, begins_iteration, iterations_of, iterations_at, begins_of}
use Rattle.teco_law_tables.proofs.Prelude.{turning, node_of, same_number}
use Rattle.teco_verifier.specs.expansion.Ends.{is_innermost, ends_by_kind, ends_by, ends}
use Rattle.teco_verifier.specs.expansion.Ways.{end_ways}
use Rattle.teco_law_turns.specs.Nests.{LoopMark, End, Plain, EndsInnermost, IsPassed}
use Rattle.teco_model.specs.declared.kind.Flow.TheVariants as flow
use Rattle.teco_model.specs.declared.kind.Kind.TheVariants as kind
use Rattle.teco_law_runs.specs.Iterations.{AreOpen}
use Rattle.teco_verifier.specs.expansion.Order.{stand_behind_kind, stand_behind}
use Rattle.teco_law_runs.proofs.Lookup.{same_stand}

-- ---- what a node is
abbrev pub mark_of_flow : Flow → LoopMark
mark_of_flow flow.Iterate = Begin
mark_of_flow flow.EndTurn = End
mark_of_flow f = Plain

abbrev pub mark_of_kind : Kind → LoopMark
mark_of_kind (kind.Flow f) = mark_of_flow f
mark_of_kind k = Plain

abbrev pub mark_of : Option Element → LoopMark
mark_of None = Plain
mark_of (Some e) = mark_of_kind e.kind

abbrev pub mark_in : Node → LoopMark
mark_in node = mark_of node.element

abbrev pub mark_at : List Node → ℕ → LoopMark
mark_at nodes k = option_map_or mark_in (numbered nodes k) Plain

begin_kind : (k : Kind) → begins_by_kind k ≡ true → mark_of_kind k ≡ Begin
begin_kind (kind.Flow flow.Iterate) h = refl
begin_kind k h = absurd (cc)

begin_read : (read : Option Element) → begins_iteration read ≡ true → mark_of read ≡ Begin
begin_read None h = absurd (cc)
begin_read (Some e) h = begin_kind e.kind h

pub begin_in : (o : Option Node) → option_map_or begins_of o false ≡ true → option_map_or mark_in o Plain ≡ Begin
begin_in None h = absurd (cc)
begin_in (Some node) h = begin_read node.element h

-- ---- the iterations of what follows
ended : (number : ℕ) (ls : List ℕ) → drop 1 ls ≡ onward End number ls
ended number [] = refl
ended number (l ∷ ls) = refl

behind_kind : (library : Library) (number : ℕ) (k : Kind) (e : Element) (stand : Stand)
    → (stand_behind_kind library number k e stand).iterations ≡ onward (mark_of_kind k) number stand.iterations
behind_kind library number (kind.Call c) e stand = refl
behind_kind library number (kind.Flow flow.Iterate) e stand = refl
behind_kind library number (kind.Flow flow.EndTurn) e stand = ended number stand.iterations
behind_kind library number k e stand = refl

behind : (library : Library) (number : ℕ) (read : Option Element) (stand : Stand)
    → (stand_behind library number read stand).iterations ≡ onward (mark_of read) number stand.iterations
behind library number None stand = refl
behind library number (Some e) stand = behind_kind library number e.kind e stand

-- ---- a > stands in an iteration
open_numbers : (nodes : List Node) (entry below : ℕ) (text : List ℕ) (callers : List Spot) (Rest : List ℕ → Type 0)
    (starts numbers : List ℕ) (targets : List Position) (e : Element) (p : Position) → end_ways starts e p ≡ Ok targets
    → AreOpenIn nodes entry below text callers Rest starts numbers → numbers ≡ [] → ⊥
open_numbers nodes entry below text callers Rest (start ∷ outer) [] targets e p h are z = are
open_numbers nodes entry below text callers Rest starts numbers targets e p h are z = absurd (grind arith)

pub iterations_are : (nodes : List Node) (k : ℕ) (node : Node) → numbered nodes k ≡ Some node
    → iterations_at nodes k ≡ node.stand.iterations
iterations_are nodes k node at = ap (λ (o : Option Node). option_map_or iterations_of o []) at

pub ending : (node : Node) (e : Element) (b : ℕ) (outer : List ℕ) → node.element ≡ Some e
    → e.kind ≡ kind.Flow flow.EndTurn → node.stand.iterations ≡ b ∷ outer → ends b node ≡ true
ending node e b outer reads is s =
    ap (λ (read : Option Element). ends_by b read node.stand.iterations) reads
    ∙ (ap (λ (c : Kind). ends_by_kind b c node.stand.iterations) is ∙ (ap (is_innermost b) s ∙ same_number b))

module _ (library : Library) (entry : ℕ) (nodes : List Node) (are : AreLinked library entry nodes)
    (open_at : IterationsAreOpen) (closed : AreClosed nodes) where
  not_empty : (k : ℕ) (node : Node) (e : Element) → numbered nodes k ≡ Some node → node.element ≡ Some e
      → e.kind ≡ kind.Flow flow.EndTurn → node.stand.iterations ≡ [] → ⊥
  unfolding ways_at flow_ways
  not_empty k node e at reads is z =
      let linked = are.each k node at in
      let p = node.stand.position in
      let there : ways_at library (Some e) p ≡ Ok linked.targets = ap (λ read. ways_at library read p) (sym reads)
      ∙ linked.goes in
      let ways : flow_ways flow.EndTurn e p ≡ Ok linked.targets =
      subst (λ (k : Kind). element_ways library k e p ≡ Ok linked.targets) is there in
      open_numbers nodes entry k p.running.text p.callers (AreOpen nodes entry k p.callers) p.running.starts
      node.stand.iterations linked.targets e p ways (open_at library entry nodes k node are at) z

  module _ (table : Table) (n : ℕ) where
    ends_kind : (k : ℕ) (c : Kind) (ls : List ℕ)
        → ((b : ℕ) (outer : List ℕ) → c ≡ kind.Flow flow.EndTurn → ls ≡ b ∷ outer → end_of nodes b ≡ k)
        → (c ≡ kind.Flow flow.EndTurn → ls ≡ [] → ⊥) → EndsInnermost (turning nodes table n) (mark_of_kind c) k ls
    ends_kind k (kind.Flow flow.EndTurn) [] only some = some refl refl
    ends_kind k (kind.Flow flow.EndTurn) (l ∷ ls) only some = only l ls refl refl
    ends_kind k (kind.Flow flow.Iterate) ls only some = tt
    ends_kind k c ls only some = tt

    ends_read : (k : ℕ) (read : Option Element) (ls : List ℕ)
        → ((e : Element) (b : ℕ) (outer : List ℕ) → read ≡ Some e → e.kind ≡ kind.Flow flow.EndTurn → ls ≡ b ∷ outer
        → end_of nodes b ≡ k) → ((e : Element) → read ≡ Some e → e.kind ≡ kind.Flow flow.EndTurn → ls ≡ [] → ⊥)
        → EndsInnermost (turning nodes table n) (mark_of read) k ls
    ends_read k None ls only some = tt
    ends_read k (Some e) ls only some =
        ends_kind k e.kind ls (λ b outer is s. only e b outer refl is s) (λ is z. some e refl is z)

    ends_at : (k : ℕ) (node : Node) → numbered nodes k ≡ Some node
        → EndsInnermost (turning nodes table n) (mark_at nodes k) k (iterations_at nodes k)
    ends_at k node at =
        let here : EndsInnermost (turning nodes table n) (mark_of node.element) k node.stand.iterations =
        ends_read k node.element node.stand.iterations
        (λ e b outer reads is s. closed.only k node b at (ending node e b outer reads is s))
        (λ e reads is z. not_empty k node e at reads is z) in
        subst (λ (o : Option Node). EndsInnermost (turning nodes table n) (option_map_or mark_in o Plain) k
        (option_map_or iterations_of o [])) (sym at) here

    pub next_at : (k : ℕ) → suc k < suc (length nodes)
        → iterations_at nodes (suc k) ≡ onward (mark_at nodes k) k (iterations_at nodes k)
    next_at zero l =
        let first = node_of nodes 1 (omega arith) (omega arith) in
        iterations_are nodes 1 first.0 first.1 ∙ ap (λ (stand : Stand). stand.iterations)
        (same_stand nodes entry 1 first.0 (beginning entry) first.1 are.first)
    next_at (suc k) l =
        let here = node_of nodes (suc k) (omega arith) (omega arith) in
        let next = node_of nodes (suc (suc k)) (omega arith) (omega arith) in
        let stand : next.0.stand ≡ stand_behind library (suc k) here.0.element here.0.stand =
        same_stand nodes entry (suc (suc k)) next.0 (stand_behind library (suc k) here.0.element here.0.stand)
        next.1 (are.order (suc k) here.0 here.1) in
        let after : next.0.stand.iterations ≡ onward (mark_of here.0.element) (suc k) here.0.stand.iterations =
        ap (λ (stand : Stand). stand.iterations) stand ∙ behind library (suc k) here.0.element here.0.stand in
        iterations_are nodes (suc (suc k)) next.0 next.1
        ∙ (after ∙ ap (λ (o : Option Node). onward (option_map_or mark_in o Plain) (suc k)
        (option_map_or iterations_of o [])) (sym here.1))

    begins_at_mark : (l : ℕ) → l < end_of nodes l → (mark_at nodes l ≡ Begin) × (end_of nodes l < suc (length nodes))
    begins_at_mark l some = search arith

    pub passed : IsPassed (turning nodes table n) (λ k. mark_at nodes k)
    passed = record {
      next = next_at;
      ends = by_number;
      begins = begins_at_mark;
      within = inside;
    }
      where
        by_number : (k : ℕ) → k < suc (length nodes)
            → EndsInnermost (turning nodes table n) (mark_at nodes k) k (iterations_at nodes k)
        by_number zero l = tt
        by_number (suc k) l = let here = node_of nodes (suc k) (omega arith) (omega arith) in
            ends_at (suc k) here.0 here.1

        inside : (k : ℕ) → k < suc (length nodes) → AllByRecursion (λ l. k ≤ end_of nodes l) (iterations_at nodes k)
        inside zero l = tt
        inside (suc k) l = let here = node_of nodes (suc k) (omega arith) (omega arith) in
            subst (λ (o : Option Node). AllByRecursion (λ l. suc k ≤ end_of nodes l) (option_map_or iterations_of o []))
            (sym here.1) (closed.ahead (suc k) here.0 here.1)
