-- Where ways lead.
use Rattle.teco_law_runs.proofs.Prelude.{◌≡◌, ℕ, zero, suc, ◌+◌, ◌-◌, ◌≤◌, List, [], ◌∷◌, ◌++◌, drop, length, get_or}
use Rattle.teco_law_runs.proofs.Prelude.{nat_lt, if◌then◌else◌, Bool, true, false, Option, Some, None, Result, Ok, refl}
use Rattle.teco_law_runs.proofs.Prelude.{sym, ap, ◌∙◌, subst, slice_get, arith, length-append, length-drop, ltb-true}
use Rattle.teco_law_runs.proofs.Prelude.{ltb-false, ok_or, Call, Search, Flow, Kind, Whole, Element, has_colon, skip_of}
use Rattle.teco_law_runs.proofs.Prelude.{body_at, AreOpen, AreOpenIn, IsOpen, Library, macro, IsNext, Lead, AreLinked}
use Rattle.teco_law_runs.proofs.Prelude.{Stand, Node, stands, numbered, stand_at, base_of, base_of_way}
use Rattle.teco_law_runs.proofs.Prelude.{position_in_text, position_behind_call, stand_behind_kind, stand_behind, Spot}
use Rattle.teco_law_runs.proofs.Prelude.{Position, moved_to, starts_in, depth, Reason, Unpaired, past, jumped, jump_way}
use Rattle.teco_law_runs.proofs.Prelude.{way_or_jump, end_ways, leave_ways, flow_ways, search_ways, call_ways}
use Rattle.teco_law_runs.proofs.Prelude.{return_ways, element_ways, ways_at, ok, bound, frame_of}
use Rattle.teco_model.specs.declared.kind.Flow.TheVariants as flow
use Rattle.teco_model.specs.declared.kind.Kind.TheVariants as kind
use Rattle.teco_law_runs.specs.Leading.{Place, place_at, IsBehind, IsAhead, IsInside, IsBack, IsOutside, LeadsByFlow}
use Rattle.teco_law_runs.specs.Leading.{LeadsByKind, LeadsBy, WaysLead}
use Rattle.teco_verifier.specs.expansion.Node.{iterations_at, base_of_kind}
use Rattle.teco_verifier.specs.expansion.Order.{stand_inside, stand_outside}
use Rattle.teco_verifier.specs.expansion.Ways.{called}
use Rattle.teco_law_runs.proofs.Iterations.{iterations_are_open}
use Rattle.teco_law_runs.proofs.FlowWays.{ahead_way}
use Rattle.teco_law_runs.proofs.Turns.{leaves_by_kind, leaves_none}

-- iterations by depth
same_iterations : (number : ℕ) (numbers : List ℕ) (before after : ℕ) → before ≡ after
    → iterations_at number numbers before after ≡ numbers
same_iterations number numbers before after h = among (nat_lt before after) refl
  where
    among : (b : Bool) → nat_lt before after ≡ b
        → (if b then number ∷ numbers else drop (before - after) numbers) ≡ numbers
    among true l = absurd (omega (arith, ltb-true before after l, h))
    among false l = let e : before - after ≡ 0 = omega (arith, h) in ap (λ n. drop n numbers) e

fewer_iterations : (number : ℕ) (numbers : List ℕ) (before after left : ℕ) → before ≡ after + left
    → iterations_at number numbers before after ≡ drop left numbers
fewer_iterations number numbers before after left h = among (nat_lt before after) refl
  where
    among : (b : Bool) → nat_lt before after ≡ b
        → (if b then number ∷ numbers else drop (before - after) numbers) ≡ drop left numbers
    among true l = absurd (omega (arith, ltb-true before after l, h))
    among false l = let e : before - after ≡ left = omega (arith, h) in ap (λ n. drop n numbers) e

one_more : (number : ℕ) (numbers : List ℕ) (before after : ℕ) → after ≡ suc before
    → iterations_at number numbers before after ≡ number ∷ numbers
one_more number numbers before after h = among (nat_lt before after) refl
  where
    among : (b : Bool) → nat_lt before after ≡ b
        → (if b then number ∷ numbers else drop (before - after) numbers) ≡ number ∷ numbers
    among true l = refl
    among false l = absurd (omega (arith, ltb-false before after l, h))

-- the next, where it stands just behind the base
near : (all : List Stand) (base number : ℕ) (stand : Stand) → IsNext all base stand number
    → numbered all (suc base) ≡ Some stand → number ≡ suc base
near all base number stand n h = among (nat_lt (suc base) number) refl
  where
    among : (b : Bool) → nat_lt (suc base) number ≡ b → number ≡ suc base
    among true l = absurd (n.least (suc base) (omega arith) (ltb-true (suc base) number l) h)
    among false l = omega (arith, n.ahead, ltb-false (suc base) number l)

-- a jump that is a way
record Jumped (e : Element) (p q : Position) : Type 0 where
  place : ℕ
  is : q ≡ moved_to place (drop (skip_of p.running.text (Whole e)).leaves p.running.starts) p

jump_is : (e : Element) (p q : Position) → jumped e p ≡ Ok q → Jumped e p q
jump_is e p q h = let to = bound (ok_or (skip_of p.running.text (Whole e)).to Unpaired) _ q h in
    record { place = to.before; is = sym (ok _ q to.gives) }

-- the ways, one by one
only_way : (p q : Position) (targets : List Position) → Path (Result (List Position) Reason) (Ok (p ∷ [])) (Ok targets)
    → slice_get targets 0 ≡ Some q → p ≡ q
only_way p q targets w g = let e : Some p ≡ Some q = ap (λ l. slice_get l 0) (ok _ targets w) ∙ g in cc

no_second_way : {P : Type 0} (p q : Position) (way : ℕ) (targets : List Position)
    → Path (Result (List Position) Reason) (Ok (p ∷ [])) (Ok targets) → slice_get targets (suc way) ≡ Some q → P
no_second_way p q way targets w g = let e : Path (Option Position) None (Some q) =
    ap (λ l. slice_get l (suc way)) (ok _ targets w) ∙ g in absurd (cc)

first_of : (first q : Position) (e : Element) (p : Position) (targets : List Position)
    → way_or_jump first e p ≡ Ok targets → slice_get targets 0 ≡ Some q → first ≡ q
first_of first q e p targets w g =
    let b = bound (jumped e p) _ targets w in
    let h : Some first ≡ Some q = ap (λ l. slice_get l 0) (ok _ targets b.gives) ∙ g in cc

second_of : (first q : Position) (e : Element) (p : Position) (targets : List Position)
    → way_or_jump first e p ≡ Ok targets → slice_get targets 1 ≡ Some q → Jumped e p q
second_of first q e p targets w g =
    let b = bound (jumped e p) _ targets w in
    let h : Some b.before ≡ Some q = ap (λ l. slice_get l 1) (ok _ targets b.gives) ∙ g in
    let same : b.before ≡ q = cc in
    jump_is e p q (b.was ∙ ap Ok same)

no_third_way : {P : Type 0} (first q : Position) (e : Element) (p : Position) (way : ℕ) (targets : List Position)
    → way_or_jump first e p ≡ Ok targets → slice_get targets (suc (suc way)) ≡ Some q → P
no_third_way first q e p way targets w g =
    let b = bound (jumped e p) _ targets w in
    let h : Path (Option Position) None (Some q) = ap (λ l. slice_get l (suc (suc way))) (ok _ targets b.gives) ∙ g in
    absurd (cc)

jump_of : (q : Position) (e : Element) (p : Position) (targets : List Position) → jump_way e p ≡ Ok targets
    → slice_get targets 0 ≡ Some q → Jumped e p q
jump_of q e p targets w g =
    let b = bound (jumped e p) _ targets w in
    let h : Some b.before ≡ Some q = ap (λ l. slice_get l 0) (ok _ targets b.gives) ∙ g in
    let same : b.before ≡ q = cc in
    jump_is e p q (b.was ∙ ap Ok same)

no_other_jump : {P : Type 0} (q : Position) (e : Element) (p : Position) (way : ℕ) (targets : List Position)
    → jump_way e p ≡ Ok targets → slice_get targets (suc way) ≡ Some q → P
no_other_jump q e p way targets w g =
    let b = bound (jumped e p) _ targets w in
    let h : Path (Option Position) None (Some q) = ap (λ l. slice_get l (suc way)) (ok _ targets b.gives) ∙ g in
    absurd (cc)

-- what a jump leaves of the depth
depth_left : (n : ℕ) (starts rest : List ℕ) → n ≤ length starts
    → length (starts ++ rest) ≡ length (drop n starts ++ rest) + n
depth_left n starts rest l = omega (
  arith,
  l,
  length-append starts rest,
  length-append (drop n starts) rest,
  length-drop n starts,
)

depth_kept : (n : ℕ) (starts rest : List ℕ)
    → length (starts ++ rest) ≡ length (drop n starts ++ rest) + (length starts - length (drop n starts))
depth_kept n starts rest = omega (
  arith,
  length-append starts rest,
  length-append (drop n starts) rest,
  length-drop n starts,
)

jump_depth : (n : ℕ) (e : Element) (p q : Position) → Jumped e p q → (skip_of p.running.text (Whole e)).leaves ≡ n
    → n ≤ length p.running.starts → depth p ≡ depth q + n
jump_depth n e p q j leaves l =
    let is : q ≡ moved_to j.place (drop n p.running.starts) p =
    j.is ∙ ap (λ n. moved_to j.place (drop n p.running.starts) p) leaves in
    depth_left n p.running.starts (starts_in p.callers) l ∙ ap (λ q. depth q + n) (sym is)

module _ (library : Library) (entry : ℕ) (nodes : List Node) (number : ℕ) (node : Node)
    (are : AreLinked library entry nodes) (at : numbered nodes number ≡ Some node) where
  -- what stands as the order wants it is just behind
  behind : (stand : Stand) (target : ℕ) → IsNext (stands nodes entry) number stand target
      → stand ≡ stand_behind library number node.element node.stand → target ≡ suc number
  behind stand target n h = near (stands nodes entry) number target stand n (are.order number node at ∙ ap Some (sym h))

  -- to the next
  on : (q : Position) (target : ℕ) (stand : Stand) → depth node.stand.position ≡ depth q
      → stand_behind library number node.element node.stand ≡ record node.stand { position = q } →
      IsNext (stands nodes entry) number (stand_at number node.stand q) target → stand ≡ stand_at number node.stand q
      → IsBehind (place_at number node.stand) (place_at target stand)
  on q target stand d o n s =
      let same : iterations_at number node.stand.iterations (depth node.stand.position)
      (depth q) ≡ node.stand.iterations = same_iterations number node.stand.iterations _ _ d in (
        behind (stand_at number node.stand q) target n
            (ap (λ iterations. record { position = q; iterations = iterations }) same ∙ sym o),
        ap (λ (s : Stand). s.iterations) s ∙ same,
      )

  -- by a jump
  ahead : (q : Position) (leaves target : ℕ) (stand : Stand) → depth node.stand.position ≡ depth q + leaves →
      IsNext (stands nodes entry) number (stand_at number node.stand q) target → stand ≡ stand_at number node.stand q
      → IsAhead leaves (place_at number node.stand) (place_at target stand)
  ahead q leaves target stand d n s =
      (n.ahead, ap (λ (s : Stand). s.iterations) s ∙ fewer_iterations number node.stand.iterations _ _ leaves d)

  -- an element with one way, to what is behind it
  abbrev Only : ℕ → Place → Place → Type 0
  Only zero from to = IsBehind from to
  Only (suc way) from to = ⊥

  plain : (way : ℕ) (p q : Position) (targets : List Position) (target : ℕ) (stand : Stand)
      → Path (Result (List Position) Reason) (Ok (p ∷ [])) (Ok targets) → slice_get targets way ≡ Some q →
      depth node.stand.position ≡ depth p
      → stand_behind library number node.element node.stand ≡ record node.stand { position = p } →
      IsNext (stands nodes entry) (base_of_way way number number) (stand_at number node.stand q) target
      → stand ≡ stand_at number node.stand q → Only way (place_at number node.stand) (place_at target stand)
  plain zero p q targets target stand w g d o n s =
      let same : p ≡ q = only_way p q targets w g in
      on q target stand (d ∙ ap depth same) (o ∙ ap (λ p. record node.stand { position = p }) same) n s
  plain (suc way) p q targets target stand w g d o n s = no_second_way p q way targets w g

  -- what may jump, and leaves so many iterations where it does
  abbrev MayJump : ℕ → ℕ → Place → Place → Type 0
  MayJump leaves zero from to = IsBehind from to
  MayJump leaves (suc zero) from to = IsAhead leaves from to
  MayJump leaves (suc (suc way)) from to = ⊥

  jumping : (leaves : ℕ) (e : Element) (way : ℕ) (q : Position) (targets : List Position) (target : ℕ) (stand : Stand)
      → way_or_jump (past e node.stand.position) e node.stand.position ≡ Ok targets → slice_get targets way ≡ Some q →
      (skip_of node.stand.position.running.text (Whole e)).leaves ≡ leaves
      → leaves ≤ length node.stand.position.running.starts →
      stand_behind library number node.element node.stand ≡ record node.stand { position = past e node.stand.position }
      →
      IsNext (stands nodes entry) (base_of_way way number number) (stand_at number node.stand q) target
      → stand ≡ stand_at number node.stand q
      → MayJump leaves way (place_at number node.stand) (place_at target stand)
  jumping leaves e zero q targets target stand w g k l o n s =
      let same : past e node.stand.position ≡ q = first_of _ q e node.stand.position targets w g in
      on q target stand (ap depth same) (o ∙ ap (λ p. record node.stand { position = p }) same) n s
  jumping leaves e (suc zero) q targets target stand w g k l o n s =
      ahead q leaves target stand (jump_depth leaves e node.stand.position q
      (second_of _ q e node.stand.position targets w g) k l) n s
  jumping leaves e (suc (suc way)) q targets target stand w g k l o n s =
      no_third_way _ q e node.stand.position way targets w g

  -- < and >
  inside : (e : Element) (q : Position) (target : ℕ) (stand : Stand)
      → moved_to e.next (e.next ∷ node.stand.position.running.starts) node.stand.position ≡ q →
      stand_behind library number node.element node.stand ≡ stand_inside number e node.stand →
      IsNext (stands nodes entry) number (stand_at number node.stand q) target → stand ≡ stand_at number node.stand q
      → IsInside (place_at number node.stand) (place_at target stand)
  inside e q target stand h o n s =
      let more : iterations_at number node.stand.iterations (depth node.stand.position)
      (depth q) ≡ number ∷ node.stand.iterations = one_more number node.stand.iterations _ _ (sym (ap depth h)) in
      let same : stand_at number node.stand q ≡ stand_inside number e node.stand =
      λ i. record { position = sym h i; iterations = more i } in
      (behind (stand_at number node.stand q) target n (same ∙ sym o), ap (λ (s : Stand). s.iterations) s ∙ more)

  back : (starts numbers : List ℕ) (e : Element) (q : Position) (targets : List Position) (target : ℕ) (stand : Stand)
      → node.stand.position.running.starts ≡ starts → node.stand.iterations ≡ numbers →
      AreOpenIn nodes entry number node.stand.position.running.text node.stand.position.callers
      (AreOpen nodes entry number node.stand.position.callers) starts numbers →
      end_ways starts e node.stand.position ≡ Ok targets → slice_get targets 0 ≡ Some q →
      IsNext (stands nodes entry) (get_or numbers 0 0) (stand_at number node.stand q) target
      → stand ≡ stand_at number node.stand q → IsBack (place_at number node.stand) (place_at target stand)
  back (start ∷ outer) (begin ∷ numbers) e q targets target stand k i open' w g n s =
      let p = node.stand.position in
      let h : Some (moved_to start (start ∷ outer) p) ≡ Some q = ap (λ l. slice_get l 0) (ok _ targets w) ∙ g in
      let is : moved_to start (start ∷ outer) p ≡ q = cc in
      let deep : depth p ≡ depth q = ap (λ starts. length (starts ++ starts_in p.callers)) k ∙ ap depth is in
      let same : iterations_at number node.stand.iterations (depth p) (depth q) ≡ node.stand.iterations =
      same_iterations number node.stand.iterations _ _ deep in
      let body : body_at p.running.text p.callers start outer (begin ∷ numbers) ≡ stand_at number node.stand q =
      λ j. record { position = is j; iterations = sym (same ∙ i) j } in
      record {
        begin = begin;
        outer = numbers;
        innermost = i;
        number = near (stands nodes entry) begin target (stand_at number node.stand q) n
            (open'.0.behind ∙ ap Some body);
        same = ap (λ (s : Stand). s.iterations) s ∙ same;
      }
  back starts numbers e q targets target stand k i open' w g n s = absurd (grind arith)

  outside : (starts numbers : List ℕ) (e : Element) (q : Position) (targets : List Position) (target : ℕ)
      (stand : Stand) → node.stand.position.running.starts ≡ starts → node.stand.iterations ≡ numbers →
      AreOpenIn nodes entry number node.stand.position.running.text node.stand.position.callers
      (AreOpen nodes entry number node.stand.position.callers) starts numbers →
      end_ways starts e node.stand.position ≡ Ok targets → slice_get targets 1 ≡ Some q
      → stand_behind library number node.element node.stand ≡ stand_outside e node.stand →
      IsNext (stands nodes entry) number (stand_at number node.stand q) target → stand ≡ stand_at number node.stand q
      → IsOutside (place_at number node.stand) (place_at target stand)
  outside (start ∷ outer) (begin ∷ numbers) e q targets target stand k i open' w g o n s =
      let p = node.stand.position in
      let h : Some (moved_to e.next outer p) ≡ Some q = ap (λ l. slice_get l 1) (ok _ targets w) ∙ g in
      let is : moved_to e.next outer p ≡ q = cc in
      let deep : depth p ≡ depth q + 1 = ap (λ starts. length (starts ++ starts_in p.callers)) k
      ∙ (depth_left 1 (start ∷ outer) (starts_in p.callers) (omega arith) ∙ ap (λ q. depth q + 1) is) in
      let fewer : iterations_at number node.stand.iterations (depth p) (depth q) ≡ drop 1 node.stand.iterations =
      fewer_iterations number node.stand.iterations _ _ 1 deep in
      let starts : drop 1 p.running.starts ≡ outer = ap (drop 1) k in
      let place : moved_to e.next (drop 1 p.running.starts) p ≡ q = ap (λ starts. moved_to e.next starts p) starts
      ∙ is in
      let same : stand_at number node.stand q ≡ stand_outside e node.stand =
      λ j. record { position = sym place j; iterations = fewer j } in
      let left : stand.iterations ≡ numbers = ap (λ (s : Stand). s.iterations) s ∙ (fewer ∙ ap (drop 1) i) in
      record {
        begin = begin;
        innermost = i ∙ ap (λ ns. begin ∷ ns) (sym left);
        number = behind (stand_at number node.stand q) target n (same ∙ sym o);
      }
  outside starts numbers e q targets target stand k i open' w g o n s = absurd (grind arith)

  -- an element of a kind
  of_kind : (k : Kind) (e : Element) → node.element ≡ Some e → e.kind ≡ k
      → stand_behind library number node.element node.stand ≡ stand_behind_kind library number k e node.stand
  of_kind k e r g = ap (λ read. stand_behind library number read node.stand) r
      ∙ ap (λ k. stand_behind_kind library number k e node.stand) g

  opened : IsOpen nodes entry number node.stand
  opened = iterations_are_open library entry nodes number node are at

  some_start : (starts : List ℕ) (e : Element) (targets : List Position)
      → leave_ways starts e node.stand.position ≡ Ok targets
      → (way_or_jump (past e node.stand.position) e node.stand.position ≡ Ok targets) × (1 ≤ length starts)
  some_start [] e targets w = absurd (cc)
  some_start (start ∷ outer) e targets w = (w, omega arith)

  flow_leads : (f : Flow) (e : Element) (way : ℕ) (targets : List Position) (q : Position) (target : ℕ) (stand : Stand)
      → node.element ≡ Some e → e.kind ≡ kind.Flow f → flow_ways f e node.stand.position ≡ Ok targets
      → slice_get targets way ≡ Some q →
      IsNext (stands nodes entry) (base_of_way way (base_of_kind (kind.Flow f) number node.stand.iterations) number)
      (stand_at number node.stand q) target → stand ≡ stand_at number node.stand q →
      LeadsByFlow f way (place_at number node.stand) (place_at target stand)
  unfolding flow_ways
  flow_leads flow.Iterate e zero targets q target stand r g w h n s =
      inside e q target stand (first_of _ q e node.stand.position targets w h) (of_kind (kind.Flow flow.Iterate) e r g)
      n s
  flow_leads flow.Iterate e (suc zero) targets q target stand r g w h n s =
      ahead q 0 target stand (jump_depth 0 e node.stand.position q (second_of _ q e node.stand.position targets w h)
      (leaves_by_kind (kind.Flow flow.Iterate) e node.stand.position.running.text g) (omega arith)) n s
  flow_leads flow.Iterate e (suc (suc way)) targets q target stand r g w h n s =
      no_third_way _ q e node.stand.position way targets w h
  flow_leads flow.EndTurn e zero targets q target stand r g w h n s =
      back node.stand.position.running.starts node.stand.iterations e q targets target stand refl refl opened w h n s
  flow_leads flow.EndTurn e (suc zero) targets q target stand r g w h n s =
      outside node.stand.position.running.starts node.stand.iterations e q targets target stand refl refl opened w h
      (of_kind (kind.Flow flow.EndTurn) e r g) n s
  flow_leads flow.EndTurn e (suc (suc way)) targets q target stand r g w h n s =
      no_third node.stand.position.running.starts w h
    where
      no_third : {P : Type 0} (starts : List ℕ) → end_ways starts e node.stand.position ≡ Ok targets
          → slice_get targets (suc (suc way)) ≡ Some q → P
      no_third [] w h = absurd (cc)
      no_third (start ∷ outer) w h = let z : Path (Option Position) None (Some q) =
          ap (λ l. slice_get l (suc (suc way))) (ok _ targets w) ∙ h in absurd (cc)
  flow_leads flow.Leave e zero targets q target stand r g w h n s =
      let l = some_start node.stand.position.running.starts e targets w in
      jumping 1 e 0 q targets target stand l.0 h
      (leaves_by_kind (kind.Flow flow.Leave) e node.stand.position.running.text g) l.1
      (of_kind (kind.Flow flow.Leave) e r g) n s
  flow_leads flow.Leave e (suc zero) targets q target stand r g w h n s =
      let l = some_start node.stand.position.running.starts e targets w in
      jumping 1 e 1 q targets target stand l.0 h
      (leaves_by_kind (kind.Flow flow.Leave) e node.stand.position.running.text g) l.1
      (of_kind (kind.Flow flow.Leave) e r g) n s
  flow_leads flow.Leave e (suc (suc way)) targets q target stand r g w h n s =
      let l = some_start node.stand.position.running.starts e targets w in
      no_third_way _ q e node.stand.position way targets l.0 h
  flow_leads (flow.Test test) e zero targets q target stand r g w h n s =
      jumping 0 e 0 q targets target stand w h
      (leaves_by_kind (kind.Flow (flow.Test test)) e node.stand.position.running.text g) (omega arith)
      (of_kind (kind.Flow (flow.Test test)) e r g) n s
  flow_leads (flow.Test test) e (suc zero) targets q target stand r g w h n s =
      jumping 0 e 1 q targets target stand w h
      (leaves_by_kind (kind.Flow (flow.Test test)) e node.stand.position.running.text g) (omega arith)
      (of_kind (kind.Flow (flow.Test test)) e r g) n s
  flow_leads (flow.Test test) e (suc (suc way)) targets q target stand r g w h n s =
      no_third_way _ q e node.stand.position way targets w h
  flow_leads flow.Otherwise e zero targets q target stand r g w h n s =
      ahead q 0 target stand (jump_depth 0 e node.stand.position q (jump_of q e node.stand.position targets w h)
      (leaves_by_kind (kind.Flow flow.Otherwise) e node.stand.position.running.text g) (omega arith)) n s
  flow_leads flow.Otherwise e (suc way) targets q target stand r g w h n s =
      no_other_jump q e node.stand.position way targets w h
  flow_leads flow.EndTest e zero targets q target stand r g w h n s =
      plain 0 (past e node.stand.position) q targets target stand w h refl (of_kind (kind.Flow flow.EndTest) e r g) n s
  flow_leads flow.EndTest e (suc way) targets q target stand r g w h n s =
      no_second_way (past e node.stand.position) q way targets w h
  flow_leads flow.GoTo e zero targets q target stand r g w h n s =
      let p = node.stand.position in
      let j = jump_of q e p targets w h in
      let leaves = (skip_of p.running.text (Whole e)).leaves in
      let left = length p.running.starts - length (drop leaves p.running.starts) in (
        left,
        ahead q left target stand (depth_kept leaves p.running.starts (starts_in p.callers)
            ∙ ap (λ q. depth q + left) (sym j.is)) n s,
      )
  flow_leads flow.GoTo e (suc way) targets q target stand r g w h n s =
      no_other_jump q e node.stand.position way targets w h
  flow_leads flow.Comment e zero targets q target stand r g w h n s =
      plain 0 (past e node.stand.position) q targets target stand w h refl (of_kind (kind.Flow flow.Comment) e r g) n s
  flow_leads flow.Comment e (suc way) targets q target stand r g w h n s =
      no_second_way (past e node.stand.position) q way targets w h
  flow_leads (flow.GoAhead to) e zero targets q target stand r g w h n s =
      let p = node.stand.position in
      let jump : jump_way e p ≡ Ok targets = ahead_way to p.running.starts e p targets w in
      ahead q 0 target stand (jump_depth 0 e p q (jump_of q e p targets jump h) (leaves_none to e p.running.text g)
      (omega arith)) n s
  flow_leads (flow.GoAhead to) e (suc way) targets q target stand r g w h n s =
      let p = node.stand.position in no_other_jump q e p way targets (ahead_way to p.running.starts e p targets w) h

  search_leads : (colon : Bool) (starts : List ℕ) (x : Search) (e : Element) (way : ℕ) (targets : List Position)
      (q : Position) (target : ℕ) (stand : Stand) → node.element ≡ Some e → e.kind ≡ kind.Search x
      → node.stand.position.running.starts ≡ starts →
      search_ways colon starts e node.stand.position ≡ Ok targets → slice_get targets way ≡ Some q →
      IsNext (stands nodes entry) (base_of_way way number number) (stand_at number node.stand q) target
      → stand ≡ stand_at number node.stand q →
      LeadsByKind (kind.Search x) way (place_at number node.stand) (place_at target stand)
  search_leads false (start ∷ outer) x e zero targets q target stand r g k w h n s =
      jumping 1 e 0 q targets target stand w h (leaves_by_kind (kind.Search x) e node.stand.position.running.text g)
      (rw k (omega arith)) (of_kind (kind.Search x) e r g) n s
  search_leads false (start ∷ outer) x e (suc zero) targets q target stand r g k w h n s =
      jumping 1 e 1 q targets target stand w h (leaves_by_kind (kind.Search x) e node.stand.position.running.text g)
      (rw k (omega arith)) (of_kind (kind.Search x) e r g) n s
  search_leads false (start ∷ outer) x e (suc (suc way)) targets q target stand r g k w h n s =
      no_third_way _ q e node.stand.position way targets w h
  search_leads false [] x e zero targets q target stand r g k w h n s =
      plain 0 (past e node.stand.position) q targets target stand w h refl (of_kind (kind.Search x) e r g) n s
  search_leads false [] x e (suc way) targets q target stand r g k w h n s =
      no_second_way (past e node.stand.position) q way targets w h
  search_leads true [] x e zero targets q target stand r g k w h n s =
      plain 0 (past e node.stand.position) q targets target stand w h refl (of_kind (kind.Search x) e r g) n s
  search_leads true [] x e (suc way) targets q target stand r g k w h n s =
      no_second_way (past e node.stand.position) q way targets w h
  search_leads true (start ∷ outer) x e zero targets q target stand r g k w h n s =
      plain 0 (past e node.stand.position) q targets target stand w h refl (of_kind (kind.Search x) e r g) n s
  search_leads true (start ∷ outer) x e (suc way) targets q target stand r g k w h n s =
      no_second_way (past e node.stand.position) q way targets w h

  call_leads : (text : Option (List ℕ)) (c : Call) (e : Element) (way : ℕ) (targets : List Position) (q : Position)
      (target : ℕ) (stand : Stand) → node.element ≡ Some e → e.kind ≡ kind.Call c → macro library c.register ≡ text →
      call_ways text e node.stand.position ≡ Ok targets → slice_get targets way ≡ Some q →
      IsNext (stands nodes entry) (base_of_way way number number) (stand_at number node.stand q) target
      → stand ≡ stand_at number node.stand q →
      LeadsByKind (kind.Call c) way (place_at number node.stand) (place_at target stand)
  call_leads None c e way targets q target stand r g m w h n s = absurd (cc)
  call_leads (Some text) c e zero targets q target stand r g m w h n s =
      plain 0 (called text e node.stand.position) q targets target stand w h refl
      (of_kind (kind.Call c) e r g ∙ ap (λ text.
      record node.stand { position = position_in_text text e node.stand.position }) m) n s
  call_leads (Some text) c e (suc way) targets q target stand r g m w h n s =
      no_second_way (called text e node.stand.position) q way targets w h

  kind_leads : (k : Kind) (e : Element) (way : ℕ) (targets : List Position) (q : Position) (target : ℕ) (stand : Stand)
      → node.element ≡ Some e → e.kind ≡ k → element_ways library k e node.stand.position ≡ Ok targets
      → slice_get targets way ≡ Some q →
      IsNext (stands nodes entry) (base_of_way way (base_of_kind k number node.stand.iterations) number)
      (stand_at number node.stand q) target → stand ≡ stand_at number node.stand q →
      LeadsByKind k way (place_at number node.stand) (place_at target stand)
  kind_leads (kind.Call c) e way targets q target stand r g w h n s =
      call_leads (macro library c.register) c e way targets q target stand r g refl w h n s
  kind_leads (kind.Flow f) e way targets q target stand r g w h n s =
      flow_leads f e way targets q target stand r g w h n s
  kind_leads (kind.Search x) e way targets q target stand r g w h n s =
      search_leads (has_colon e (frame_of node.stand.position.running.text)) node.stand.position.running.starts x e way
      targets q target stand r g refl w h n s
  kind_leads k e zero targets q target stand r g w h n s =
      plain 0 (past e node.stand.position) q targets target stand w h refl (of_kind k e r g) n s
  kind_leads k e (suc way) targets q target stand r g w h n s =
      no_second_way (past e node.stand.position) q way targets w h

  return_leads : (starts : List ℕ) (callers : List Spot) (way : ℕ) (targets : List Position) (q : Position) (target : ℕ)
      (stand : Stand) → node.element ≡ None → node.stand.position.running.starts ≡ starts
      → node.stand.position.callers ≡ callers →
      return_ways starts callers ≡ Ok targets → slice_get targets way ≡ Some q →
      IsNext (stands nodes entry) (base_of_way way number number) (stand_at number node.stand q) target
      → stand ≡ stand_at number node.stand q →
      Only way (place_at number node.stand) (place_at target stand)
  return_leads (start ∷ outer) callers way targets q target stand r k c w h n s = absurd (cc)
  return_leads [] [] way targets q target stand r k c w h n s = let z : Path (Option Position) None (Some q) =
      ap (λ l. slice_get l way) (ok _ targets w) ∙ h in absurd (cc)
  return_leads [] (caller ∷ callers) way targets q target stand r k c w h n s =
      plain way (record { running = caller; callers = callers }) q targets target stand w h
      (ap (λ starts. length (starts ++ starts_in node.stand.position.callers)) k
      ∙ ap (λ callers. length (starts_in callers)) c)
      (ap (λ read. stand_behind library number read node.stand) r
      ∙ ap (λ callers. record node.stand { position = position_behind_call callers node.stand.position }) c) n s

  read_leads : (read : Option Element) (way : ℕ) (targets : List Position) (q : Position) (target : ℕ) (stand : Stand)
      → node.element ≡ read → ways_at library read node.stand.position ≡ Ok targets → slice_get targets way ≡ Some q →
      IsNext (stands nodes entry) (base_of_way way (base_of read number node.stand.iterations) number)
      (stand_at number node.stand q) target → stand ≡ stand_at number node.stand q →
      LeadsBy read way (place_at number node.stand) (place_at target stand)
  unfolding ways_at
  read_leads None zero targets q target stand r w h n s =
      return_leads node.stand.position.running.starts node.stand.position.callers 0 targets q target stand r refl refl w
      h n s
  read_leads None (suc way) targets q target stand r w h n s =
      return_leads node.stand.position.running.starts node.stand.position.callers (suc way) targets q target stand r
      refl refl w h n s
  read_leads (Some e) way targets q target stand r w h n s =
      kind_leads e.kind e way targets q target stand r refl w h n s

-- the target of a way's number
record Target (all : List Stand) (base number : ℕ) (from : Stand) (targets : List Position) (way target : ℕ) :
    Type 0 where
  position : Position
  at : slice_get targets way ≡ Some position
  next : IsNext all (base_of_way way base number) (stand_at number from position) target

target_of : (all : List Stand) (base number : ℕ) (from : Stand) (targets : List Position) (ways : List ℕ)
    (way target : ℕ) → Lead all base number from targets ways → slice_get ways way ≡ Some target
    → Target all base number from targets way target
target_of all base number from (p ∷ targets) (n ∷ ways) zero target l h =
    let e : n ≡ target = cc in record {
      position = p;
      at = refl;
      next = subst (IsNext all base (stand_at number from p)) e l.0;
    }
target_of all base number from (p ∷ targets) (n ∷ ways) (suc zero) target l h =
    let later = target_of all number number from targets ways zero target l.1 h in
    record { position = later.position; at = later.at; next = later.next }
target_of all base number from (p ∷ targets) (n ∷ ways) (suc (suc way)) target l h =
    let later = target_of all number number from targets ways (suc way) target l.1 h in
    record { position = later.position; at = later.at; next = later.next }
target_of all base number from targets ways way target l h = absurd (grind arith)

pub ways_lead : WaysLead
ways_lead library entry nodes number node way target stand are at taken there =
    let linked = are.each number node at in
    let found = target_of (stands nodes entry) (base_of node.element number node.stand.iterations) number node.stand
    linked.targets node.ways way target linked.leads taken in
    let same : Some stand ≡ Some (stand_at number node.stand found.position) = sym there ∙ found.next.at in
    let is : stand ≡ stand_at number node.stand found.position = cc in
    read_leads library entry nodes number node are at node.element way linked.targets found.position target stand refl
    linked.goes found.at found.next is
