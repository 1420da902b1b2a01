-- A run stands at nodes alone.
use Rattle.teco_law_runs.proofs.Prelude.{◌≡◌, ℕ, zero, suc, List, [], ◌∷◌, ◌++◌, map, Option, Some, None, Ok, refl, sym}
use Rattle.teco_law_runs.proofs.Prelude.{ap, ◌∙◌, subst, slice_get, arith, Element, blank_len, element_at, run, go_on}
use Rattle.teco_law_runs.proofs.Prelude.{Frame, State, Outcome, Next, start, Loop, end_of_text, step, Library, IsLoaded}
use Rattle.teco_law_runs.proofs.Prelude.{call_of, IsNext, Lead, IsLinked, AreLinked, Stand, Node, beginning, over}
use Rattle.teco_law_runs.proofs.Prelude.{stand_of_node, stands, numbered, stand_at, base_of, base_of_way, Position}
use Rattle.teco_law_runs.proofs.Prelude.{start_of, spot_of, position_of, position_of_frames, IsLeftAt, Moves, read_at}
use Rattle.teco_law_runs.proofs.Prelude.{ways_at, ok, end_outcome}
use Rattle.teco_law_runs.specs.Run.{MovesFrom, Went, Stayed, StepsGoAlongNodes, StandsAt, WritesNoMacro, ComesTo}
use Rattle.teco_law_runs.specs.Run.{RunsComeToNodes, RunsEnd}
use Rattle.teco_law_runs.specs.Steps as steps
use Rattle.teco_law_runs.proofs.StayLoaded.{stays_loaded}
use Rattle.teco_law_runs.proofs.StepWays.{as_read, steps_go_ways}

-- a way's number
pub record Numbered (all : List Stand) (base : ℕ) (ways : List ℕ) (way : ℕ) (stand : Stand) : Type 0 where
  pub number : ℕ
  pub taken : slice_get ways way ≡ Some number
  pub there : IsNext all base stand number

way_number : (all : List Stand) (base number : ℕ) (from : Stand) (ways : List ℕ) (targets : List Position) (way : ℕ)
    (p : Position) → Lead all base number from targets ways → slice_get targets way ≡ Some p →
    Numbered all (base_of_way way base number) ways way (stand_at number from p)
way_number all base number from ways [] way p l h = absurd (cc)
way_number all base number from [] (target ∷ targets) way p l h = absurd l
way_number all base number from (n ∷ ways) (target ∷ targets) zero p l h =
    let e : target ≡ p = cc in
    record { number = n; taken = refl; there = subst (λ p. IsNext all base (stand_at number from p) n) e l.0 }
way_number all base number from (n ∷ ways) (target ∷ targets) (suc zero) p l h =
    let later = way_number all number number from ways targets zero p l.1 h in
    record { number = later.number; taken = later.taken; there = later.there }
way_number all base number from (n ∷ ways) (target ∷ targets) (suc (suc way)) p l h =
    let later = way_number all number number from ways targets (suc way) p l.1 h in
    record { number = later.number; taken = later.taken; there = later.there }

along : (library : Library) (all : List Stand) (number : ℕ) (node : Node) (s t : State)
    → (linked : IsLinked library all number node) → Moves node.element linked.targets s t
    → MovesFrom all number node s t
along library all number node s t linked (steps.Stayed stays) = Stayed stays
along library all number node s t linked (steps.Went goes) =
    let n = way_number all (base_of node.element number node.stand.iterations) number node.stand node.ways
    linked.targets goes.way (position_of t) linked.leads goes.leads in
    Went (record {
      way = goes.way;
      target = n.number;
      taken = n.taken;
      there = n.there;
      done = goes.done;
      was = goes.was;
    })

pub steps_go_along_nodes : StepsGoAlongNodes
steps_go_along_nodes library entry nodes number node s t are n h l loaded g =
    let linked = are.each number node n in
    along library (stands nodes entry) number node s t linked
    (steps_go_ways library s t node.element linked.targets loaded l (ap read_at (sym h) ∙ linked.reads)
    (ap (ways_at library node.element) (sym h) ∙ linked.goes) g)

-- what is numbered is a node, or the end
pub data AtNode (nodes : List Node) (end stand : Stand) (k : ℕ) : Type 0 where
  is_node : (node : Node) → slice_get nodes k ≡ Some node → node.stand ≡ stand → AtNode nodes end stand k
  ends : stand ≡ end → AtNode nodes end stand k

later : (first : Node) (nodes : List Node) (end stand : Stand) (k : ℕ) → AtNode nodes end stand k
    → AtNode (first ∷ nodes) end stand (suc k)
later first nodes end stand k (is_node n h e) = is_node n h e
later first nodes end stand k (ends e) = ends e

pub node_or_end : (nodes : List Node) (end stand : Stand) (k : ℕ)
    → slice_get (map stand_of_node nodes ++ end ∷ []) k ≡ Some stand → AtNode nodes end stand k
node_or_end [] end stand zero h = let e : end ≡ stand = cc in ends (sym e)
node_or_end [] end stand (suc k) h = absurd (cc)
node_or_end (first ∷ nodes) end stand zero h = let e : first.stand ≡ stand = cc in is_node first refl e
node_or_end (first ∷ nodes) end stand (suc k) h = later first nodes end stand k (node_or_end nodes end stand k h)

-- at the end nothing is read, and no way leads on
pub over_reads : (entry : ℕ) → read_at (over entry).position ≡ Ok None
unfolding read_at element_at blank_len
over_reads entry = refl

pub over_goes : (library : Library) (entry : ℕ) → ways_at library None (over entry).position ≡ Ok []
unfolding ways_at
over_goes library entry = refl

nothing_left : (read : Option Element) (left : Option ℕ) → left ≡ None → IsLeftAt read left
nothing_left None left h = subst (IsLeftAt None) (sym h) tt
nothing_left (Some e) left h = subst (IsLeftAt (Some e)) (sym h) tt

no_step : {P : Type 0} (s t : State) → Moves None [] s t → P
no_step s t (steps.Went goes) = let z = goes.leads in absurd (cc)
no_step s t (steps.Stayed stays) = absurd (subst (IsLeftAt None) stays.left stays.long)

came : (library : Library) (all : List Stand) (number : ℕ) (node : Node) (s t : State)
    → numbered all number ≡ Some node.stand → node.stand.position ≡ position_of s
    → read_at node.stand.position ≡ Ok node.element → IsLoaded library t.world.kept →
    MovesFrom all number node s t → ComesTo library all t
came library all number node s t at h r loaded (Went goes) = record {
  number = goes.target;
  there = record {
    stand = stand_at number node.stand (position_of t);
    at = goes.there.at;
    position = refl;
    left = λ read e. nothing_left read t.left goes.done;
    loaded = loaded;
  };
}
came library all number node s t at h r loaded (Stayed stays) = record {
  number = number;
  there = record {
    stand = node.stand;
    at = at;
    position = h ∙ ap position_of_frames (sym stays.same);
    left = λ read e. subst (λ read. IsLeftAt read t.left) (ok node.element read (sym r ∙ e)) stays.long;
    loaded = loaded;
  };
}

step_comes : (library : Library) (entry : ℕ) (nodes : List Node) (k : ℕ) (s t : State) → AreLinked library entry nodes
    → (at : StandsAt library (stands nodes entry) (suc k) s) → AtNode nodes (over entry) at.stand k
    → WritesNoMacro library s → step s ≡ Next t →
    ComesTo library (stands nodes entry) t
step_comes library entry nodes k s t are at (is_node n h e) none g =
    let linked = are.each (suc k) n h in
    let position : n.stand.position ≡ position_of s = ap (λ (stand : Stand). stand.position) e ∙ at.position in
    let reads : read_at (position_of s) ≡ Ok n.element = ap read_at (sym position) ∙ linked.reads in
    let left : IsLeftAt n.element s.left =
    at.left n.element (ap (λ (stand : Stand). read_at stand.position) (sym e) ∙ linked.reads) in
    came library (stands nodes entry) (suc k) n s t (at.at ∙ ap Some (sym e)) position linked.reads
    (stays_loaded library s t n.element at.loaded (none.none n.element reads) reads g)
    (steps_go_along_nodes library entry nodes (suc k) n s t are h position left at.loaded g)
step_comes library entry nodes k s t are at (ends e) none g =
    let position : position_of s ≡ (over entry).position = sym at.position ∙ ap (λ (stand : Stand). stand.position) e in
    let left : IsLeftAt None s.left =
    at.left None (ap (λ (stand : Stand). read_at stand.position) e ∙ over_reads entry) in
    no_step s t (steps_go_ways library s t None [] at.loaded left (ap read_at position ∙ over_reads entry)
    (ap (ways_at library None) position ∙ over_goes library entry) g)

pub at_number : (library : Library) (entry : ℕ) (nodes : List Node) (number : ℕ) (s t : State)
    → AreLinked library entry nodes → StandsAt library (stands nodes entry) number s → WritesNoMacro library s
    → step s ≡ Next t → ComesTo library (stands nodes entry) t
at_number library entry nodes zero s t are at none g = let z = at.at in absurd (cc)
at_number library entry nodes (suc k) s t are at none g =
    step_comes library entry nodes k s t are at (node_or_end nodes (over entry) at.stand k at.at) none g

-- the last step of a run
pub record Last (before : Outcome) (t : State) : Type 0 where
  pub last : State
  pub was : before ≡ Next last
  pub goes : step last ≡ Next t

pub last_step : (before : Outcome) (t : State) → go_on before ≡ Next t → Last before t
last_step (Next s) t h = record { last = s; was = refl; goes = h }
last_step before t h = absurd (grind arith)

pub runs_come_to_nodes : RunsComeToNodes
unfolding run
runs_come_to_nodes library entry nodes world zero s are l f r =
    let e : start (call_of entry) world ≡ s = cc in
    subst (ComesTo library (stands nodes entry)) e (record {
      number = 1;
      there = record {
        stand = beginning entry;
        at = are.first;
        position = refl;
        left = λ read e. nothing_left read None refl;
        loaded = l;
      };
    })
runs_come_to_nodes library entry nodes world (suc n) s are l f r =
    let last = last_step (run n (start (call_of entry) world)) s r in
    let before = runs_come_to_nodes library entry nodes world n last.last are l f last.was in
    at_number library entry nodes before.number last.last s are before.there (f n last.last last.was) last.goes

-- the end
no_loops : (loops : List Loop) → [] ≡ map start_of loops → loops ≡ []
no_loops [] h = refl
no_loops (loop ∷ loops) h = absurd (cc)

no_callers : (callers : List Frame) → [] ≡ map spot_of callers → callers ≡ []
no_callers [] h = refl
no_callers (caller ∷ callers) h = absurd (cc)

pub runs_end : RunsEnd
runs_end entry s h =
    let loops : s.frames.running.loops ≡ [] =
    no_loops s.frames.running.loops (ap (λ (p : Position). p.running.starts) h) in
    let callers : s.frames.callers ≡ [] = no_callers s.frames.callers (ap (λ (p : Position). p.callers) h) in
    as_read s None (ap read_at (sym h) ∙ over_reads entry)
    ∙ (ap (λ loops. end_of_text loops s) loops ∙ ap (λ callers. end_outcome callers s) callers)
