-- What an element comes to by the laws of facts is what is known on the way that its last step goes.
use Rattle.teco_law_tables.proofs.Prelude.{◌≡◌, inl, inr, ℕ, ℤ, zero, suc, ◌+◌, ◌≤◌, refl, sym, ap, ◌∙◌, subst, arith}
use Rattle.teco_law_tables.proofs.Prelude.{List, ◌∷◌, drop, length, Bool, true, false, is_some, Option, Some, None}
use Rattle.teco_law_tables.proofs.Prelude.{MatchOption, Result, Ok, Err, Code, Taken, Loop, Flow, Kind, Arguments}
use Rattle.teco_law_tables.proofs.Prelude.{◌>>=◌, Element, Turn, Search, skip_of, Whole, readings, World, Frame, Frames}
use Rattle.teco_law_tables.proofs.Prelude.{State, Node, Went, ElementWas, StepWas, Polynomial, value, Describes, Run}
use Rattle.teco_law_tables.proofs.Prelude.{run_behind, Facts, Edges, unread_of, KindEnds, left_by, placed, edges_at}
use Rattle.teco_law_tables.proofs.Prelude.{along_kind, along, held_of, run_by_flow, run_by_kind, run_along, IsLast}
use Rattle.teco_law_tables.proofs.Prelude.{Alone, Again, Comes}
use Rattle.std.proofs.Common.{ok_or}
use Rattle.teco_base.specs.declared.code.Code.TheVariants as code
use Rattle.teco_model.specs.declared.kind.Flow.TheVariants as flow
use Rattle.teco_model.specs.declared.kind.Kind.TheVariants as kind
use Rattle.teco_model.specs.Arguments.{arguments_of, no_arguments}
use Rattle.teco_model.specs.Effect.{needed_value}
use Rattle.teco_model.specs.Flow.{turn_to, leaves}
use Rattle.teco_model.specs.Condition.{holds}
use Rattle.teco_model.specs.declared.skip.Skip.{Skip}
use Rattle.teco_model.specs.Skip.{route_of, skip_on}
use Rattle.teco_law_runs.specs.Turns.{Counts, CountsDown, Took}
use Rattle.teco_law_runs.specs.Was as was
use Rattle.teco_law_facts.specs.SoundFlow.{number_needed}
use Rattle.teco_law_facts.specs.SoundPages.{ComesTo}
use Rattle.teco_law_facts.specs.SoundSteps as sound
use Rattle.teco_law_facts.specs.SoundSteps.{FlowGoes, Reached, ReachedIf, is_last}
use Rattle.teco_verifier.specs.table.Behind.{along_flow}
use Rattle.teco_law_tables.proofs.Entered.{not_again}

-- ---- flow
enters_counted : (value : Option ℤ) (turns : Option ℕ) → Counts value turns → sound.enters value ≡ true
enters_counted None turns c = refl
enters_counted (Some n) turns c = ap (λ (o : Option ℕ). is_some o) c.2

not_last : (now next : Option ℕ) → CountsDown now next → is_last now ≡ false
not_last None next c = refl
not_last (Some left) next c = ap (λ n. is_last (Some n)) c.2

given : {X : Type 0} → X → Result X Code → X
given other (Ok x) = x
given other (Err c) = other

same_given : {X : Type 0} (r : Result X Code) (x y : X) → r ≡ Ok x → r ≡ Ok y → x ≡ y
unfolding given
same_given r x y h g = ap (given x) (sym h ∙ g)

same_taken : (a : Arguments) (taken : Taken) (v : Option ℤ) → arguments_of a.level ≡ Ok taken → Took a v
    → taken.value ≡ v
same_taken a taken v h w = ap (λ (t : Taken). t.value) (same_given (arguments_of a.level) taken w.taken h w.took)
    ∙ w.value_is

same_number : (a : Arguments) (v n : ℤ) → number_needed a ≡ Ok v → Took a (Some n) → v ≡ n
same_number a v n h w =
    let e : number_needed a ≡ Ok n = ap (λ (r : Result Taken Code). r >>= (λ taken. needed_value taken.value)) w.took
    ∙ ap (λ v. needed_value v) w.value_is in
    same_given (number_needed a) v n h e

module _ (nodes : List Node) (node : Node) (e : Element) (edges : Edges) (run : Run) (held : Polynomial) (s : State)
    (turn gone : Turn) where
  if_true : (b : Bool) (one other : Run) (o a : Option Facts) → b ≡ true → ReachedIf b one other held s o a turn
      → Reached one held s o turn
  if_true b one other o a h r = subst (λ b. ReachedIf b one other held s o a turn) h r

  if_false : (b : Bool) (one other : Run) (o a : Option Facts) → b ≡ false → ReachedIf b one other held s o a turn
      → Reached other held s a turn
  if_false b one other o a h r = subst (λ b. ReachedIf b one other held s o a turn) h r

  flow_reached : (f : Flow) (way : ℕ) → Went f way e s.arguments s.frames.running gone
      → FlowGoes f run held (placed nodes node e) edges s turn
      → Reached (run_by_flow f way (left_by nodes node) s.world run) held s (along_flow f way edges) turn
  flow_reached flow.Iterate zero w g =
      if_true _ _ _ edges.on edges.away (ap sound.enters (same_taken s.arguments g.0 w.value g.1 w.took)
      ∙ enters_counted w.value w.turns w.counts) g.2
  flow_reached flow.Iterate (suc zero) w g =
      if_false _ _ _ edges.on edges.away (ap sound.enters (same_taken s.arguments g.0 (Some w.n) g.1 w.took)
      ∙ ap (λ (o : Option ℕ). is_some o) w.none) g.2
  flow_reached flow.EndTurn zero w g =
      let l : g.0 ∷ g.1 ≡ w.loop ∷ w.outer = sym g.2 ∙ w.inside in
      let same : g.0 ≡ w.loop = cc in
      if_false _ _ _ edges.on edges.away (ap (λ (l : Loop). is_last l.turns) same
      ∙ not_last w.loop.turns w.turns w.counts) g.3
  flow_reached flow.EndTurn (suc zero) w g =
      let l : g.0 ∷ g.1 ≡ w.loop ∷ w.outer = sym g.2 ∙ w.inside in
      let same : g.0 ≡ w.loop = cc in
      if_true _ _ _ edges.on edges.away (ap (λ (l : Loop). is_last l.turns) same ∙ ap is_last w.last) g.3
  flow_reached flow.Leave zero w g =
      if_false _ _ _ edges.away edges.on (ap (leaves e.colons) (same_number s.arguments g.0 w.n g.1 w.took) ∙ w.stays)
      g.2
  flow_reached flow.Leave (suc zero) w g =
      if_true _ _ _ edges.away edges.on (ap (leaves e.colons) (same_number s.arguments g.0 w.n g.1 w.took) ∙ w.leaves)
      g.2
  flow_reached (flow.Test test) zero w g =
      if_true _ _ _ edges.on edges.away (ap (holds test) (same_number s.arguments g.0 w.n g.1 w.took) ∙ w.true_here) g.2
  flow_reached (flow.Test test) (suc zero) w g =
      if_false _ _ _ edges.on edges.away (ap (holds test) (same_number s.arguments g.0 w.n g.1 w.took) ∙ w.false_here)
      g.2
  flow_reached f zero w g = g
  flow_reached f way w g = absurd (grind arith)

-- ---- a way
module _ (nodes : List Node) (node : Node) (facts : Facts) (edges : Edges) (run : Run) (s t : State) (way : ℕ)
    (leads : edges_at nodes node facts ≡ Ok edges) where
  abbrev pub Reaches : Run → Option Facts → Type 0
  Reaches other o = MatchOption o ⊥ (λ next. ComesTo other facts.held s.world next t.arguments t.world)

  comes_by : (other : Run) (o : Option Facts) → along node.element way edges ≡ o
      → run_along node.element way (left_by nodes node) s.world run ≡ other → other.n ≡ run.n → Reaches other o
      → Comes nodes node facts way run s t
  comes_by other None on is same c = absurd c
  comes_by other (Some next) on is same c = record {
    edges = edges;
    next = next;
    leads = leads;
    on_way = on;
    described = subst (λ run. Describes run next (unread_of t.world) t.world.kept t.arguments) (sym is) c.described;
    grown = subst (λ n. held_of t.world + value facts.held n ≤ held_of s.world + value next.held n) same c.grown;
  }

  module _ (e : Element) (reads : node.element ≡ Some e) where
    by_kind : (k : Kind) (other : Run) → e.kind ≡ k → run_by_kind k way (left_by nodes node) s.world run ≡ other
        → other.n ≡ run.n → Reaches other (along_kind k way edges) → Comes nodes node facts way run s t
    by_kind k other is r same c = comes_by other (along_kind k way edges)
        (ap (λ read. along read way edges) reads ∙ ap (λ k. along_kind k way edges) is)
        (ap (λ read. run_along read way (left_by nodes node) s.world run) reads
        ∙ (ap (λ k. run_by_kind k way (left_by nodes node) s.world run) is ∙ r)) same c

-- ---- a jump
jump_loops : (c : Code) (a : Arguments) (frame : Frame) (skip : Skip) (o : Option ℕ) (turn : Turn)
    → (ok_or o c >>= λ place. Ok (turn_to a place (drop skip.leaves frame.loops) frame)) ≡ Ok turn
    → turn.frame.loops ≡ drop skip.leaves frame.loops
jump_loops c a frame skip None turn h = absurd (cc)
jump_loops c a frame skip (Some place) turn h =
    ap (λ (turn : Turn). turn.frame.loops)
    (sym (same_given (Ok (turn_to a place (drop skip.leaves frame.loops) frame))
    (turn_to a place (drop skip.leaves frame.loops) frame) turn refl h))

search_leaves : (e : Element) (q : Search) (text : List ℕ) → e.kind ≡ kind.Search q
    → (skip_of text (Whole e)).leaves ≡ 1
search_leaves e q text is = ap (λ k. (skip_on (route_of k) e.text (readings text e.next)).leaves) is

not_both : (loops : List Loop) (loop : Loop) (outer : List Loop) → loops ≡ loop ∷ outer → loops ≡ drop 1 loops → ⊥
not_both loops loop outer h g =
    let one : length loops ≡ suc (length outer) = ap length h in
    let two : length loops ≡ length outer = ap length g ∙ ap (λ (ls : List Loop). length (drop 1 ls)) h in
    omega (arith, one, two)

flow_n : (f : Flow) (way between : ℕ) (world : World) (run : Run) → (run_by_flow f way between world run).n ≡ run.n
flow_n flow.Iterate zero between world run = refl
flow_n flow.Iterate (suc way) between world run = refl
flow_n flow.EndTurn zero between world run = refl
flow_n flow.EndTurn (suc way) between world run = refl
flow_n f way between world run = refl

-- an iteration is open in the text
pub record HasLoop (frame : Frame) : Type 0 where
  pub loop : Loop
  pub outer : List Loop
  pub is : frame.loops ≡ loop ∷ outer

same_frames : (read : Option Element) (s last : State) → IsLast read s last → last.frames ≡ s.frames
same_frames read s last (Alone e) = ap (λ (s : State). s.frames) e
same_frames read s last (Again e long) = e

module _ (nodes : List Node) (node : Node) (facts : Facts) (edges : Edges) (run : Run) (s last t : State)
    (leads : edges_at nodes node facts ≡ Ok edges) (e : Element) (reads : node.element ≡ Some e)
    (again : IsLast node.element s last) (inside : (q : Search) → e.kind ≡ kind.Search q
    → (placed nodes node e).colon ≡ false → HasLoop s.frames.running) where
  flow_comes : (f : Flow) (way : ℕ) → e.kind ≡ kind.Flow f → was.Turns f way e last t
      → sound.Turns f run facts.held (placed nodes node e) edges s t → Comes nodes node facts way run s t
  flow_comes f way is w ends =
      let v : was.Turns f way e s t =
      subst (λ (last : State). was.Turns f way e last t) (not_again f e node.element s last reads is again) w in
      let run_is = run_by_flow f way (left_by nodes node) s.world run in
      let reached = flow_reached nodes node e edges run facts.held s ends.turn v.turn f way v.went ends.goes in
      by_kind nodes node facts edges run s t way leads e reads (kind.Flow f)
      (run_by_flow f way (left_by nodes node) s.world run) is refl (flow_n f way (left_by nodes node) s.world run)
      (subst (λ (t : State). MatchOption (along_flow f way edges) ⊥
      (λ next. ComesTo (run_by_flow f way (left_by nodes node) s.world run) facts.held s.world next t.arguments
      t.world)) (sym ends.gone) reached)

  last_loops : last.frames.running.loops ≡ s.frames.running.loops
  last_loops = ap (λ (frames : Frames). frames.running.loops) (same_frames node.element s last again)

  -- a search that went on did not leave its iteration
  not_left : (q : Search) → e.kind ≡ kind.Search q → t.frames.running.loops ≡ last.frames.running.loops
      → (placed nodes node e).colon ≡ false → sound.LeavesFor run facts.held edges e s t → ⊥
  not_left q is same colon left =
      let i = inside q is colon in
      let gone : left.turn.frame.loops ≡ drop (skip_of s.frames.running.text (Whole e)).leaves s.frames.running.loops =
      jump_loops code.Utc no_arguments s.frames.running (skip_of s.frames.running.text (Whole e))
      (skip_of s.frames.running.text (Whole e)).to left.turn left.jumps in
      let there : t.frames.running.loops ≡ left.turn.frame.loops =
      ap (λ (frames : Frames). frames.running.loops) left.frames in
      not_both s.frames.running.loops i.loop i.outer i.is
      (sym last_loops
      ∙ (sym same
      ∙ (there ∙ (gone ∙ ap (λ n. drop n s.frames.running.loops) (search_leaves e q s.frames.running.text is)))))

  on_comes : (q : Search) → e.kind ≡ kind.Search q → t.frames.running.loops ≡ last.frames.running.loops
      → KindEnds (kind.Search q) run facts (placed nodes node e) edges s t → Comes nodes node facts zero run s t
  on_comes q is same (inl ends) =
      by_kind nodes node facts edges run s t zero leads e reads (kind.Search q) run is refl refl ends.comes
  on_comes q is same (inr (colon, left)) = absurd (not_left q is same colon left)

  away_comes : (q : Search) → e.kind ≡ kind.Search q → was.LeavesByMiss q e last t
      → KindEnds (kind.Search q) run facts (placed nodes node e) edges s t → Comes nodes node facts (suc zero) run s t
  away_comes q is w (inl ends) =
      let there : t.frames.running.loops ≡ s.frames.running.loops =
      ap (λ (frames : Frames). frames.running.loops) ends.frames in
      let gone : t.frames.running.loops ≡ drop 1 last.frames.running.loops =
      ap (λ (frames : Frames). frames.running.loops) w.frames_are
      ∙ ap (λ (turn : Turn). turn.frame.loops) w.jumps.gone in
      absurd (not_both last.frames.running.loops w.loop w.outer w.inside (last_loops ∙ (sym there ∙ gone)))
  away_comes q is w (inr (colon, left)) =
      by_kind nodes node facts edges run s t (suc zero) leads e reads (kind.Search q)
      (run_behind 1 run) is refl refl left.comes

  kind_comes : (k : Kind) (way : ℕ) → e.kind ≡ k → ElementWas k way e last t
      → KindEnds k run facts (placed nodes node e) edges s t → Comes nodes node facts way run s t
  kind_comes (kind.Flow f) way is w ends = flow_comes f way is w ends
  kind_comes (kind.Search q) zero is (inl w) ends =
      on_comes q is (ap (λ (frames : Frames). frames.running.loops) w.answers.frames_are) ends
  kind_comes (kind.Search q) zero is (inr w) ends =
      on_comes q is (ap (λ (frames : Frames). frames.running.loops) w.answers.frames_are) ends
  kind_comes (kind.Search q) (suc zero) is w ends = away_comes q is w ends
  kind_comes k zero is w ends = by_kind nodes node facts edges run s t zero leads e reads k run is refl refl ends.comes
  kind_comes k way is w ends = absurd (grind arith)

  pub element_comes : (way : ℕ) → StepWas node.element way last t
      → KindEnds e.kind run facts (placed nodes node e) edges s t → Comes nodes node facts way run s t
  element_comes way w ends = kind_comes e.kind way refl (subst (λ read. StepWas read way last t) reads w) ends
