-- The numbers of open iterations.
use Rattle.teco_law_runs.proofs.Prelude.{◌≡◌, ℕ, zero, suc, ◌<◌, List, [], ◌∷◌, ◌++◌, map, drop, Option, Some}
use Rattle.teco_law_runs.proofs.Prelude.{None, Ok, refl, sym, ap, ◌∙◌, subst, slice_get, arith, rules, Kind}
use Rattle.teco_law_runs.proofs.Prelude.{Element, AreOpenIn, AreOpen, IsOpen, Library, macro, AreLinked, Stand}
use Rattle.teco_law_runs.proofs.Prelude.{Node, beginning, over, stand_of_node, stands, numbered, position_in_text}
use Rattle.teco_law_runs.proofs.Prelude.{position_behind_call, stand_behind_kind, stand_behind, Spot, Position}
use Rattle.teco_law_runs.proofs.Prelude.{end_ways, flow_ways, return_ways, element_ways, ways_at}
use Rattle.teco_model.specs.declared.kind.Flow.TheVariants as flow
use Rattle.teco_model.specs.declared.kind.Kind.TheVariants as kind
use Rattle.teco_law_runs.specs.Iterations.{IterationsAreOpen}
use Rattle.teco_law_runs.proofs.Lookup.{stand_of}

-- what is behind a number is behind a greater one
later_in : (nodes : List Node) (entry below more : ℕ) (text : List ℕ) (callers : List Spot) (Rest Other : List ℕ
    → Type 0) (starts numbers : List ℕ) → below < more → ((ns : List ℕ) → Rest ns → Other ns) →
    AreOpenIn nodes entry below text callers Rest starts numbers
    → AreOpenIn nodes entry more text callers Other starts numbers
later_in nodes entry below more text callers Rest Other [] numbers l f o = f numbers o
later_in nodes entry below more text callers Rest Other (start ∷ outer) [] l f o = absurd o
later_in nodes entry below more text callers Rest Other (start ∷ outer) (n ∷ numbers) l f o = (
  record {
    node = o.0.node;
    element = o.0.element;
    at = o.0.at;
    before = omega (arith, l, o.0.before);
    reads = o.0.reads;
    is_begin = o.0.is_begin;
    behind = o.0.behind;
  },
  later_in nodes entry below more text callers Rest Other outer numbers l f o.1,
)

later : (nodes : List Node) (entry below more : ℕ) (spots : List Spot) (numbers : List ℕ) → below < more
    → AreOpen nodes entry below spots numbers → AreOpen nodes entry more spots numbers
later nodes entry below more [] numbers l o = o
later nodes entry below more (spot ∷ callers) numbers l o =
    later_in nodes entry below more spot.text callers (AreOpen nodes entry below callers)
    (AreOpen nodes entry more callers) spot.starts numbers l (λ ns r. later nodes entry below more callers ns l r) o

-- behind the end of a text
returned : (nodes : List Node) (entry below : ℕ) (starts : List ℕ) (callers : List Spot) (numbers : List ℕ)
    (p : Position) (targets : List Position) → p.running.starts ≡ starts → p.callers ≡ callers
    → return_ways starts callers ≡ Ok targets →
    AreOpenIn nodes entry below p.running.text callers (AreOpen nodes entry below callers) starts numbers →
    (let q = position_behind_call callers p in AreOpen nodes entry below (q.running ∷ q.callers) numbers)
returned nodes entry below (start ∷ outer) callers numbers p targets s c w o = absurd (cc)
returned nodes entry below [] (caller ∷ callers) numbers p targets s c w o = o
returned nodes entry below [] [] numbers p targets s c w o =
    subst (λ starts. AreOpenIn nodes entry below p.running.text p.callers (AreOpen nodes entry below p.callers) starts
    numbers) (sym s)
    (subst (λ callers. AreOpen nodes entry below callers numbers) (sym c) o)

-- into a text
entered : (nodes : List Node) (entry below : ℕ) (text : Option (List ℕ)) (e : Element) (numbers : List ℕ) (p : Position)
    → AreOpen nodes entry below (p.running ∷ p.callers) numbers →
    (let q = position_in_text text e p in AreOpen nodes entry below (q.running ∷ q.callers) numbers)
entered nodes entry below None e numbers p o = o
entered nodes entry below (Some text) e numbers p o = o

-- out of a body
left : (nodes : List Node) (entry below : ℕ) (starts numbers : List ℕ) (e : Element) (p : Position)
    (targets : List Position) → end_ways starts e p ≡ Ok targets →
    AreOpenIn nodes entry below p.running.text p.callers (AreOpen nodes entry below p.callers) starts numbers →
    AreOpenIn nodes entry below p.running.text p.callers (AreOpen nodes entry below p.callers) (drop 1 starts)
    (drop 1 numbers)
left nodes entry below (start ∷ outer) (n ∷ numbers) e p targets w o = o.1
left nodes entry below starts numbers e p targets w o = absurd (grind arith)

behind_kind : (library : Library) (nodes : List Node) (entry number : ℕ) (k : Kind) (e : Element) (node : Node)
    (targets : List Position) → numbered nodes number ≡ Some node → node.element ≡ Some e → e.kind ≡ k →
    numbered (stands nodes entry) (suc number) ≡ Some (stand_behind_kind library number k e node.stand) →
    element_ways library k e node.stand.position ≡ Ok targets → IsOpen nodes entry (suc number) node.stand
    → IsOpen nodes entry (suc number) (stand_behind_kind library number k e node.stand)
unfolding flow_ways
behind_kind library nodes entry number (kind.Call c) e node targets h r g n w o =
    entered nodes entry (suc number) (macro library c.register) e node.stand.iterations node.stand.position o
behind_kind library nodes entry number (kind.Flow flow.Iterate) e node targets h r g n w o =
    (record { node = node; element = e; at = h; before = omega arith; reads = r; is_begin = g; behind = n }, o)
behind_kind library nodes entry number (kind.Flow flow.EndTurn) e node targets h r g n w o =
    left nodes entry (suc number) node.stand.position.running.starts node.stand.iterations e node.stand.position targets
    w o
behind_kind library nodes entry number k e node targets h r g n w o = o

behind : (library : Library) (nodes : List Node) (entry number : ℕ) (read : Option Element) (node : Node)
    (targets : List Position) → numbered nodes number ≡ Some node → node.element ≡ read →
    numbered (stands nodes entry) (suc number) ≡ Some (stand_behind library number read node.stand) →
    ways_at library read node.stand.position ≡ Ok targets → IsOpen nodes entry (suc number) node.stand
    → IsOpen nodes entry (suc number) (stand_behind library number read node.stand)
unfolding ways_at
behind library nodes entry number None node targets h r n w o =
    returned nodes entry (suc number) node.stand.position.running.starts node.stand.position.callers
    node.stand.iterations node.stand.position targets refl refl w o
behind library nodes entry number (Some e) node targets h r n w o =
    behind_kind library nodes entry number e.kind e node targets h r refl n w o

-- a number that is one more is behind another
pub record Earlier (nodes : List Node) (k : ℕ) : Type 0 where
  pub node : Node
  pub at : slice_get nodes k ≡ Some node

pub earlier : (nodes : List Node) (k : ℕ) (node : Node) → slice_get nodes (suc k) ≡ Some node → Earlier nodes k
earlier [] k node h = absurd (cc)
earlier (first ∷ nodes) zero node h = record { node = first; at = refl }
earlier (first ∷ nodes) (suc k) node h = let e = earlier nodes k node h in record { node = e.node; at = e.at }

pub first_is : (nodes : List Node) (end stand : Stand) (node : Node)
    → slice_get (map stand_of_node nodes ++ end ∷ []) 0 ≡ Some stand → slice_get nodes 0 ≡ Some node
    → stand ≡ node.stand
first_is [] end stand node h g = absurd (cc)
first_is (first ∷ nodes) end stand node h g = search rules

all_open : (library : Library) (entry : ℕ) (nodes : List Node) (k : ℕ) (node : Node) → AreLinked library entry nodes
    → slice_get nodes k ≡ Some node → IsOpen nodes entry (suc k) node.stand
all_open library entry nodes zero node are h =
    subst (IsOpen nodes entry 1) (first_is nodes (over entry) (beginning entry) node are.first h) refl
all_open library entry nodes (suc k) node are h =
    let before = earlier nodes k node h in
    let linked = are.each (suc k) before.node before.at in
    let o = all_open library entry nodes k before.node are before.at in
    let p = before.node.stand.position in
    let known : numbered (stands nodes entry) (suc (suc k)) ≡ Some
    (stand_behind library (suc k) before.node.element before.node.stand) =
    are.order (suc k) before.node before.at in
    let same : Some node.stand ≡ Some (stand_behind library (suc k) before.node.element before.node.stand) =
    sym (stand_of nodes entry (suc (suc k)) node h) ∙ known in
    let order : node.stand ≡ stand_behind library (suc k) before.node.element before.node.stand = cc in
    let next = behind library nodes entry (suc k) before.node.element before.node linked.targets before.at refl
    (stand_of nodes entry (suc (suc k)) node h ∙ ap Some order) linked.goes
    (later nodes entry (suc k) (suc (suc k)) (p.running ∷ p.callers) before.node.stand.iterations (omega arith) o) in
    subst (IsOpen nodes entry (suc (suc k))) (sym order) next

pub iterations_are_open : IterationsAreOpen
iterations_are_open library entry nodes zero node are h = absurd (cc)
iterations_are_open library entry nodes (suc k) node are h = all_open library entry nodes k node are h
