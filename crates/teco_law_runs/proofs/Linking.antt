-- Whatever is expanded is linked.
use Rattle.teco_law_runs.proofs.Prelude.{◌≡◌, ℕ, zero, suc, ◌+◌, ◌≤◌, length, rules, List, [], ◌∷◌, ◌++◌, map}
use Rattle.teco_law_runs.proofs.Prelude.{Option, Some, None, Result, Ok, Err, refl, sym, ap, ◌∙◌, subst, slice_get}
use Rattle.teco_law_runs.proofs.Prelude.{get_or, arith, length-map, Reason, Library, Spot, read_at, Stand, Node}
use Rattle.teco_law_runs.proofs.Prelude.{over, stand_of_node, stands, numbered, stand_behind, Visit, next_visit}
use Rattle.teco_law_runs.proofs.Prelude.{register_at, Walk, walk, stand_of_visit, all_stands, nodes_at, expansion}
use Rattle.teco_law_runs.proofs.Prelude.{MOST_ELEMENTS, MOST_OPEN, IsLinked, ok, bound}
use Rattle.teco_verifier.specs.expansion.Refusal.{Refusal}
use Rattle.teco_verifier.specs.expansion.Expansion.{first_visit}
use Rattle.teco_verifier.specs.expansion.Expansion.{walk_while, walk_behind, whole_walk_of}
use Rattle.teco_verifier.specs.expansion.Expansion.{unless_refused}
use Rattle.teco_law_runs.specs.Linked.{ExpansionsAreLinked, ExpansionsAreSmall, IsTextOf}
use Rattle.teco_law_runs.specs.Linked.{NodesHaveTexts}
use Rattle.teco_law_runs.proofs.Visiting.{AllStand, AreTexts, CallersEnd, Followed, IsDone, IsSound, Next, Waits}
use Rattle.teco_law_runs.proofs.Visiting.{all_stand}
use Rattle.teco_law_runs.proofs.Visiting.{counts_few, end_behind, next_is, next_sound, register_of_node}

-- visits one after another
begins_while : (registers : List ℕ) (v : Visit) (rest : Walk)
    → slice_get (walk_while registers v rest).visits 0 ≡ Some v
begins_while [] v rest = refl
begins_while (r ∷ registers) v rest = refl

begins_behind : (entry : ℕ) (v : Visit) (r : Result Visit Reason) (on : Visit → Walk)
    → slice_get (walk_behind entry v r on).visits 0 ≡ Some v
begins_behind entry v (Err reason) on = refl
begins_behind entry v (Ok next) on = begins_while next.registers v (on next)

begins : (library : Library) (entry more number : ℕ) (v : Visit)
    → slice_get (walk more library entry number v).visits 0 ≡ Some v
unfolding walk
begins library entry zero number v = refl
begins library entry (suc more) number v =
    begins_behind entry v (next_visit library number v) (walk more library entry (number + 1))

stands_first : (vs : List Visit) (v : Visit) (end : Stand) → slice_get vs 0 ≡ Some v
    → slice_get (map stand_of_visit vs ++ end ∷ []) 0 ≡ Some v.stand
stands_first [] v end h = absurd (cc)
stands_first (first ∷ vs) v end h = let e : first ≡ v = cc in ap (λ (v : Visit). Some v.stand) e

module _ (library : Library) (entry : ℕ) where
  last_done : (number : ℕ) (v next : Visit) → IsSound library entry v → Next library number v next → next.registers ≡ []
      → IsDone library entry number (v ∷ [])
  last_done number v next s n h =
      record { each = each; sound = sound; few = omega (arith, (counts_few number next n.fits).0) }
    where
      over_next : stand_behind library number n.read v.stand ≡ over entry
      over_next = end_behind library entry number n.read v.registers v.stand n.targets n.reads n.goes s.waits s.deep
          (ap (λ (v : Visit). v.registers) (sym n.is) ∙ h)

      each : (k : ℕ) (a : Visit) → slice_get (v ∷ []) k ≡ Some a
          → Followed library (number + k) (v.stand ∷ over entry ∷ []) k a
      each zero a g =
          let same : v ≡ a = cc in
          let here : number ≡ number + 0 = omega arith in
          subst (Followed library (number + 0) (v.stand ∷ over entry ∷ []) 0) same
          (subst (λ n'. Followed library n' (v.stand ∷ over entry ∷ []) 0 v) here
          (record { read = n.read; reads = n.reads; next = ap Some (sym over_next) }))
      each (suc k) a g = absurd (cc)

      sound : (k : ℕ) (a : Visit) → slice_get (v ∷ []) k ≡ Some a → IsSound library entry a
      sound zero a g = let same : v ≡ a = cc in subst (IsSound library entry) same s
      sound (suc k) a g = absurd (cc)

  more_done : (number : ℕ) (v next : Visit) (vs : List Visit) → IsSound library entry v → Next library number v next
      → slice_get vs 0 ≡ Some next → IsDone library entry (number + 1) vs → IsDone library entry number (v ∷ vs)
  more_done number v next vs s n first rest = record { each = each; sound = sound; few = omega (arith, rest.few) }
    where
      all : List Stand
      all = map stand_of_visit vs ++ over entry ∷ []

      each : (k : ℕ) (a : Visit) → slice_get (v ∷ vs) k ≡ Some a
          → Followed library (number + k) (v.stand ∷ (map stand_of_visit vs ++ over entry ∷ [])) k a
      each zero a g =
          let same : v ≡ a = cc in
          let here : number ≡ number + 0 = omega arith in
          subst (Followed library (number + 0) (v.stand ∷ (map stand_of_visit vs ++ over entry ∷ [])) 0) same
          (subst (λ n'. Followed library n' (v.stand ∷ (map stand_of_visit vs ++ over entry ∷ [])) 0 v) here
          (record {
            read = n.read;
            reads = n.reads;
            next = stands_first vs next (over entry) first
                ∙ ap (λ (v : Visit). Some v.stand) n.is;
          }))
      each (suc k) a g =
          let f = rest.each k a g in
          let e : number + 1 + k ≡ number + suc k = omega arith in
          record {
            read = f.read;
            reads = f.reads;
            next = f.next ∙ ap (λ n'. Some (stand_behind library n' f.read a.stand)) e;
          }

      sound : (k : ℕ) (a : Visit) → slice_get (v ∷ vs) k ≡ Some a → IsSound library entry a
      sound zero a g = let same : v ≡ a = cc in subst (IsSound library entry) same s
      sound (suc k) a g = rest.sound k a g

  while_done : (number : ℕ) (registers : List ℕ) (v next : Visit) (rest : Walk) → IsSound library entry v
      → Next library number v next → next.registers ≡ registers → slice_get rest.visits 0 ≡ Some next →
      (IsSound library entry next → rest.refusal ≡ None → IsDone library entry (number + 1) rest.visits)
      → (walk_while registers v rest).refusal ≡ None
      → IsDone library entry number (walk_while registers v rest).visits
  while_done number [] v next rest s n h first later none = last_done number v next s n h
  while_done number (r ∷ registers) v next rest s n h first later none =
      more_done number v next rest.visits s n first
      (later (next_sound library entry number v next r registers s n h) none)

  behind_done : (number : ℕ) (v : Visit) (r : Result Visit Reason) (on : Visit → Walk) → next_visit library number v ≡ r
      → IsSound library entry v → ((next : Visit) → slice_get (on next).visits 0 ≡ Some next) →
      ((next : Visit) → IsSound library entry next → (on next).refusal ≡ None
      → IsDone library entry (number + 1) (on next).visits) → (walk_behind entry v r on).refusal ≡ None
      → IsDone library entry number (walk_behind entry v r on).visits
  behind_done number v (Err reason) on h s first later none = absurd (cc)
  behind_done number v (Ok next) on h s first later none =
      while_done number next.registers v next (on next) s (next_is library number v next h) refl (first next)
      (later next) none

  done : (more number : ℕ) (v : Visit) → IsSound library entry v → (walk more library entry number v).refusal ≡ None
      → IsDone library entry number (walk more library entry number v).visits
  unfolding walk
  done zero number v s none = absurd (cc)
  done (suc more) number v s none =
      behind_done number v (next_visit library number v) (walk more library entry (number + 1)) refl s
      (begins library entry more (number + 1)) (done more (number + 1)) none

-- the visit that a node is made of
record Visited (vs : List Visit) (k : ℕ) (node : Node) : Type 0 where
  visit : Visit
  at : slice_get vs k ≡ Some visit
  stand : visit.stand ≡ node.stand

visited : (vs : List Visit) (nodes : List Node) (k : ℕ) (node : Node) → map stand_of_node nodes ≡ map stand_of_visit vs
    → slice_get nodes k ≡ Some node → Visited vs k node
visited vs [] k node same h = absurd (cc)
visited [] (first ∷ nodes) k node same h = absurd (cc)
visited (v ∷ vs) (first ∷ nodes) zero node same h =
    let e : first ≡ node = cc in
    let stand : first.stand ≡ v.stand = cc in
    record { visit = v; at = refl; stand = sym stand ∙ ap stand_of_node e }
visited (v ∷ vs) (first ∷ nodes) (suc k) node same h =
    let rest : map stand_of_node nodes ≡ map stand_of_visit vs = cc in
    let later = visited vs nodes k node rest h in
    record { visit = later.visit; at = later.at; stand = later.stand }

register_there : (entry : ℕ) (vs : List Visit) (nodes : List Node) (k : ℕ) (v : Visit) (node : Node)
    → map register_of_node nodes ≡ map (register_at entry) vs → slice_get vs k ≡ Some v → slice_get nodes k ≡ Some node
    → node.register ≡ register_at entry v
register_there entry (w ∷ vs) (first ∷ nodes) zero v node same h g = search rules
register_there entry (w ∷ vs) (first ∷ nodes) (suc k) v node same h g =
    let rest : map register_of_node nodes ≡ map (register_at entry) vs = cc in
    register_there entry vs nodes k v node rest h g
register_there entry vs nodes k v node same h g = absurd (grind arith)

-- an expansion that is not refused
record IsExpanded (library : Library) (entry : ℕ) (nodes : List Node) (w : Walk) : Type 0 where
  made : AllStand library entry (all_stands w entry) 1 w.visits nodes
  walked : IsDone library entry 1 w.visits
  first : slice_get w.visits 0 ≡ Some (first_visit entry)

not_refused : (o : Option Refusal) → unless_refused o ≡ Ok tt → o ≡ None
not_refused None h = refl
not_refused (Some refusal) h = absurd (cc)

expanded : (library : Library) (entry : ℕ) (nodes : List Node) → expansion library entry ≡ Ok nodes
    → IsExpanded library entry nodes (whole_walk_of library entry)
unfolding expansion
expanded library entry nodes h =
    let w = whole_walk_of library entry in
    let made = bound (nodes_at library entry w 1 w.visits) _ nodes h in
    let ended = bound (unless_refused w.refusal) _ nodes made.gives in
    record {
      made = all_stand library entry w 1 w.visits nodes (made.was ∙ ended.gives);
      walked = done library entry (MOST_ELEMENTS + 1) 1 (first_visit entry)
          (record { waits = refl; deep = refl; few = omega arith; few_calls = omega arith; texts = refl })
          (not_refused w.refusal ended.was);
      first = begins library entry (MOST_ELEMENTS + 1) 1 (first_visit entry);
    }

module _ (library : Library) (entry : ℕ) (nodes : List Node) (w : Walk) (is : IsExpanded library entry nodes w) where
  same_stands : all_stands w entry ≡ stands nodes entry
  same_stands = ap (λ all. all ++ over entry ∷ []) (sym is.made.same)

  each_linked : (k : ℕ) (node : Node) → numbered nodes k ≡ Some node → IsLinked library (stands nodes entry) k node
  each_linked zero node g = absurd (cc)
  each_linked (suc k) node g =
      let e : 1 + k ≡ suc k = omega arith in
      subst (λ all. IsLinked library all (suc k) node) same_stands
      (subst (λ n. IsLinked library (all_stands w entry) n node) e (is.made.each k node g))

  in_order : (k : ℕ) (node : Node) → numbered nodes k ≡ Some node
      → numbered (stands nodes entry) (suc k) ≡ Some (stand_behind library k node.element node.stand)
  in_order zero node g = absurd (cc)
  in_order (suc k) node g =
      let a = visited w.visits nodes k node is.made.same g in
      let f = is.walked.each k a.visit a.at in
      let linked = is.made.each k node g in
      let element : f.read ≡ node.element =
      ok f.read node.element (sym f.reads ∙ (ap (λ (stand : Stand). read_at stand.position) a.stand ∙ linked.reads))
      in
      let number : 1 + k ≡ suc k = omega arith in
      ap (λ all. slice_get all (suc k)) (sym same_stands)
      ∙ (f.next
      ∙ (ap (λ n. Some (stand_behind library n f.read a.visit.stand)) number
      ∙ (ap (λ read. Some (stand_behind library (suc k) read a.visit.stand)) element
      ∙ ap (λ stand. Some (stand_behind library (suc k) node.element stand)) a.stand)))

  -- the visit that a node is made of
  record VisitOf (node : Node) : Type 0 where
    visit : Visit
    sound : IsSound library entry visit
    stand : visit.stand ≡ node.stand
    register : node.register ≡ register_at entry visit

  visit_of : (k : ℕ) (node : Node) → numbered nodes k ≡ Some node → VisitOf node
  visit_of zero node g = absurd (cc)
  visit_of (suc k) node g =
      let a = visited w.visits nodes k node is.made.same g in
      record {
        visit = a.visit;
        sound = is.walked.sound k a.visit a.at;
        stand = a.stand;
        register = register_there entry w.visits nodes k a.visit node is.made.registers a.at g;
      }

pub expansions_are_linked : ExpansionsAreLinked
expansions_are_linked library entry nodes h =
    let w = whole_walk_of library entry in
    let is = expanded library entry nodes h in
    record {
      first = ap (λ all. slice_get all 0) (sym (same_stands library entry nodes w is))
          ∙ stands_first w.visits (first_visit entry) (over entry) is.first;
      each = each_linked library entry nodes w is;
      order = in_order library entry nodes w is;
    }

-- as many calls are open as registers
callers_few : (entry : ℕ) (registers : List ℕ) (callers : List Spot) → CallersEnd entry registers callers
    → length callers ≡ suc (length registers)
callers_few entry [] callers w = ap length w
callers_few entry (r ∷ registers) [] w = absurd w
callers_few entry (r ∷ registers) (caller ∷ callers) w = ap suc (callers_few entry registers callers w)

calls_few : (entry : ℕ) (registers : List ℕ) (stand : Stand) → Waits entry registers stand
    → length stand.position.callers ≡ length registers
calls_few entry [] stand w = ap (λ (stand : Stand). length stand.position.callers) w
calls_few entry (r ∷ registers) stand w = callers_few entry registers stand.position.callers w

pub expansions_are_small : ExpansionsAreSmall
expansions_are_small library entry nodes h =
    let w = whole_walk_of library entry in
    let is = expanded library entry nodes h in
    record {
      elements = omega (
        arith,
        is.walked.few,
        sym (length-map nodes stand_of_node)
            ∙ (ap length is.made.same ∙ length-map w.visits stand_of_visit),
      );
      calls = λ k node g.
          let v = visit_of library entry nodes w is k node g in
          subst (λ (stand : Stand). length stand.position.callers ≤ MOST_OPEN) v.stand
          (omega (arith, calls_few entry v.visit.registers v.visit.stand v.sound.waits, v.sound.few_calls));
      iterations = λ k node g.
          let v = visit_of library entry nodes w is k node g in
          subst (λ (stand : Stand). length stand.iterations ≤ MOST_OPEN) v.stand v.sound.few;
    }

-- the text of a register is that of the innermost open one
text_there : (library : Library) (entry : ℕ) (registers : List ℕ) (spot : Spot) (callers : List Spot)
    → AreTexts library entry registers (spot ∷ callers)
    → IsTextOf library entry callers (get_or registers 0 entry) spot.text
text_there library entry [] spot [] t = (refl, t)
text_there library entry [] spot (caller ∷ callers) t = absurd t
text_there library entry (r ∷ []) spot [] t = absurd t.1
text_there library entry (r ∷ a ∷ registers) spot [] t = absurd t.1
text_there library entry (r ∷ registers) spot (caller ∷ callers) t = t.0

pub nodes_have_texts : NodesHaveTexts
nodes_have_texts library entry nodes number node h g =
    let is = expanded library entry nodes h in
    let v = visit_of library entry nodes (whole_walk_of library entry) is number node g in
    let p = v.visit.stand.position in
    subst (λ r. IsTextOf library entry node.stand.position.callers r node.stand.position.running.text) (sym v.register)
    (subst (λ (stand : Stand). IsTextOf library entry stand.position.callers
    (register_at entry v.visit) stand.position.running.text) v.stand
    (text_there library entry v.visit.registers p.running p.callers v.sound.texts))
