-- How many turns of an iteration a run begins.
use Rattle.teco_law_tables.proofs.Prelude.{◌≡◌, ◌⊎◌, inl, inr, ℕ, zero, suc, ◌+◌, ◌≤◌, ◌<◌, ◌==◌, refl, sym, ap, ◌∙◌}
use Rattle.teco_law_tables.proofs.Prelude.{subst, arith, eqb-true, List, [], ◌∷◌, length, nat_lt, Bool, true, false}
use Rattle.teco_law_tables.proofs.Prelude.{if◌then◌else◌, Option, Some, None, Result, Ok, Err, cases_order, Over}
use Rattle.teco_law_tables.proofs.Prelude.{OpenTurn, loops_in, open_loops, loops_of, shown, OpenLoop, Shown, Move}
use Rattle.teco_law_tables.proofs.Prelude.{Forward, Into, Back, still_open, reaches_more, Kind, Element, element_at}
use Rattle.teco_law_tables.proofs.Prelude.{Reaches, Frames, State, Next, End, step, end_of, IsBegin, AreClosed}
use Rattle.teco_law_tables.proofs.Prelude.{IterationsEnd, NodesAreSound, Node, over, Position, position_of, is_long}
use Rattle.teco_law_tables.proofs.Prelude.{Polynomial, and_both, RefusalReason, start_given, IsLong, MovesOn, ComesOn}
use Rattle.teco_law_tables.proofs.Prelude.{On, turns_at, value_of, turning, same_node, same_number, reaches_here}
use Rattle.teco_law_tables.proofs.Prelude.{reaches_none, same_next}
use Rattle.std.proofs.Common.{◌&&◌}
use Rattle.teco_law_turns.specs.Moves.{Enters as EntersLoop}
use Rattle.teco_law_turns.specs.Turns.{Repeats, TurnsAreBounded, turns_begun as turns_by}
use Rattle.teco_model.specs.declared.kind.Flow.TheVariants as flow
use Rattle.teco_model.specs.declared.kind.Kind.TheVariants as kind
use Rattle.teco_verifier.specs.expansion.Position.{open_starts}
use Rattle.teco_law_tables.specs.Bounded.{depth_of, is_turn_end, reads_turn_end, stands_at_turn_end, goes_back}
use Rattle.teco_law_tables.specs.Bounded.{turns_begun, BeginTurns, Enters, TakesFewTurns, IterationsAreBounded}
use Rattle.teco_law_tables.proofs.Described as described
use Rattle.teco_law_tables.proofs.Ending as ending
use Rattle.teco_law_tables.proofs.Ending.{Course, course}
use Rattle.teco_law_tables.proofs.Described.{ready_call}
use Rattle.teco_law_tables.proofs.Passing.{below_is, frames_starts, opened_length}
use Rattle.teco_law_tables.proofs.Standing.{ending as ends_innermost}
use Rattle.teco_law_tables.proofs.Underway.{Goes, ElementsGo, element_here, one_state}
use Rattle.teco_law_tables.proofs.Verifying as verifying
use Rattle.teco_law_tables.proofs.Moves.{came_leads}

-- ---- how many loops are open
still_length : {X : Type 0} (end : X → ℕ) (j : ℕ) (xs : List X) → length (still_open end j xs) ≤ length xs
still_length end j [] = omega arith
still_length {X} end j (x ∷ xs) = by_test (nat_lt (end x) j) (still_length end j xs)
  where
    by_test : (b : Bool) → length (still_open end j xs) ≤ length xs
        → length (if b then still_open end j xs else x ∷ xs) ≤ suc (length xs)
    by_test true l = omega (arith, l)
    by_test false l = omega arith

shown_length : (begins : List ℕ) (turns : List OpenTurn) → length begins ≡ length turns
    → length (loops_of begins turns) ≡ length begins
shown_length [] turns l = refl
shown_length (b ∷ begins) [] l = absurd (omega (arith, l))
shown_length (b ∷ begins) (t ∷ turns) l = ap suc (shown_length begins turns (omega (arith, l)))

-- fewer are, where the innermost has ended
fewer_open : (end : ℕ → ℕ) (target : ℕ) (begins : List ℕ) (turns : List OpenTurn) → length begins ≡ length turns
    → 0 < length begins → ((b : ℕ) (outer : List ℕ) → begins ≡ b ∷ outer → end b < target)
    → length (still_open (λ (o : OpenLoop). end o.begin) target (loops_of begins turns)) < length begins
fewer_open end target (b ∷ begins) (t ∷ turns) l some ended =
    let rest = still_length (λ (o : OpenLoop). end o.begin) target (loops_of begins turns) in
    let many = shown_length begins turns (omega (arith, l)) in
    subst (λ x. length (if x then still_open (λ (o : OpenLoop). end o.begin) target
    (loops_of begins turns) else record { begin = b; more = Some t.more } ∷ loops_of begins turns) < suc
    (length begins)) (sym (below_is (end b) target (ended b begins refl)))
    (omega (arith, rest, many))
fewer_open end target begins turns l some ended = absurd (grind arith)

none_over : (entry : ℕ) (s : State) → (over entry).position ≡ position_of s → depth_of s ≡ 0
none_over entry s o = sym (frames_starts (s.frames.running ∷ s.frames.callers))
    ∙ ap (λ (p : Position). length (open_starts p)) (sym o)

-- ---- what a > is
turn_end_kind : (k : Kind) → is_turn_end k ≡ true → k ≡ kind.Flow flow.EndTurn
turn_end_kind (kind.Flow flow.EndTurn) h = refl
turn_end_kind k h = absurd (cc)

turn_end : (read : Option Element) → reads_turn_end (Ok read) ≡ true
    → (e : Element) × (read ≡ Some e) × (e.kind ≡ kind.Flow flow.EndTurn)
turn_end None h = absurd (cc)
turn_end (Some e) h = (e, refl, turn_end_kind e.kind h)

long_kind : (k : Kind) → is_long k ≡ true → is_turn_end k ≡ false
long_kind (kind.Flow flow.EndTurn) h = absurd (cc)
long_kind k h = refl

long_none : (read : Option Element) → IsLong read → reads_turn_end (Ok read) ≡ false
long_none None h = absurd h
long_none (Some e) h = long_kind e.kind h

none_begun : (depth : ℕ) (u t : State) → stands_at_turn_end u ≡ false → turns_begun depth u t ≡ 0
none_begun depth u t h = by_test (stands_at_turn_end u) (depth_of u == depth) (depth_of t == depth) h
  where
    by_test : (b c d : Bool) → b ≡ false → ◌≡◌ {A = ℕ} (if b && c && d then 1 else 0) 0
    by_test false c d e = refl
    by_test true c d e = absurd (cc)

module _ (laws : ending.Laws) (sound : NodesAreSound) (bounded : TurnsAreBounded) (c : Course)
    (go : ElementsGo c.library c.entry c.nodes c.table c.n c.below c.first) (closed : AreClosed c.nodes) where
  open c use {library, entry, nodes, table, n, below, first, zeroth, are, passes, begins}

  abbrev At : ℕ → List OpenTurn → State → Type 0
  At number turns s = described.At laws c go number turns s

  abbrev there : (number : ℕ) (turns : List OpenTurn) (s : State) → At number turns s → Shown
  there number turns s at = shown number at.here.node.stand.iterations turns s.world

  many : (number : ℕ) (turns : List OpenTurn) (s : State) (at : At number turns s)
      → (length at.here.node.stand.iterations ≡ length turns) × (length (there number turns s at).opened ≡ depth_of s)
  many number turns s at =
      let opened = opened_length table n at.here.node.stand.iterations (open_loops s) turns at.here.opened in
      (opened.1, shown_length at.here.node.stand.iterations turns opened.1 ∙ opened.0)

  -- moves begin as many turns at least
  record Counted (depth : ℕ) (from : Shown) (count : ℕ) : Type 0 where
    moves : ℕ
    more : ℕ
    repeats : Repeats (turning nodes table n) depth moves from more
    enough : count ≤ more

  counted_none : (depth : ℕ) (from : Shown) (count : ℕ) → count ≡ 0 → Counted depth from count
  counted_none depth from count z = record { moves = 0; more = 0; repeats = refl; enough = omega (arith, z) }

  module _ (number : ℕ) (turns : List OpenTurn) (s : State) (at : At number turns s)
      (g : Goes library entry nodes table n below number turns s at.here) where
    abbrev Moving : Type 0
    Moving = MovesOn library nodes table n below number at.here.node turns s g.passes.goes.target g.passes.next

    same_frames : (j : ℕ) (u : State) → j ≤ g.passes.before → Reaches j s u → u.frames ≡ s.frames
    same_frames zero u l came = ap (λ (s : State). s.frames) (sym (reaches_none s u came))
    same_frames (suc j) u l came = (g.amid (suc j) u (omega arith) l came).frames

    same_depth : (j : ℕ) (u : State) → j ≤ g.passes.before → Reaches j s u → depth_of u ≡ depth_of s
    same_depth j u l came = ap (λ (frames : Frames). length (loops_in (frames.running ∷ frames.callers)))
        (same_frames j u l came)

    reads_same : (j : ℕ) (u : State) → j ≤ g.passes.before → Reaches j s u
        → stands_at_turn_end u ≡ reads_turn_end (Ok at.here.node.element)
    reads_same j u l came =
        ap (λ (frames : Frames). reads_turn_end (element_at frames.running.text frames.running.place))
        (same_frames j u l came)
        ∙ ap reads_turn_end (element_here sound c.ground
        (record { number = number; turns = turns; s = s; here = at.here }))

    module _ (m : Moving) where
      later : At g.passes.goes.target m.later g.passes.next
      later = described.on_there laws c go number turns s at g m

      abbrev here : Shown
      here = there number turns s at

      abbrev next : Shown
      next = there g.passes.goes.target m.later g.passes.next later

      move : Move (turning nodes table n) here next
      move = subst (λ (node : Node). Move (turning nodes table n) here
          (shown g.passes.goes.target node.stand.iterations m.later g.passes.next.world))
          (same_node nodes g.passes.goes.target m.there later.here.node m.at later.here.at) m.move

      here_many : length here.opened ≡ depth_of s
      here_many = (many number turns s at).1

      next_many : length next.opened ≡ depth_of g.passes.next
      next_many = (many g.passes.goes.target m.later g.passes.next later).1

      -- a > that stays in its iteration goes back
      back_by : (depth : ℕ) (move : Move (turning nodes table n) here next) → 1 ≤ depth
          → reads_turn_end (Ok at.here.node.element) ≡ true → depth_of s ≡ depth → depth_of g.passes.next ≡ depth
          → 1 ≤ turns_by depth (turning nodes table n) here next move
      back_by depth (Back returns) some reads before after = search (next_many, same_number, arith)
      back_by depth (Into enters) some reads before after =
          absurd (omega (arith, ap length enters.opened, here_many, next_many, before, after))
      back_by depth (Forward goes) some reads before after =
          let e = turn_end at.here.node.element reads in
          let both = opened_length table n at.here.node.stand.iterations (open_loops s) turns at.here.opened in
          let fewer = fewer_open (λ begin. end_of nodes begin) g.passes.goes.target at.here.node.stand.iterations turns
          both.1 (omega (arith, both.0, before, some))
          (λ b outer is. let ended = closed.only number at.here.node b at.here.at
          (ends_innermost at.here.node e.0 b outer e.1 e.2 is) in omega (arith, ended, goes.later)) in
          absurd (omega (arith, ap length goes.opened, fewer, both.0, next_many, before, after))

      fewer_by : (depth : ℕ) (u : State) → 1 ≤ depth → Reaches g.passes.before s u → (b : Bool)
          → goes_back depth u g.passes.next ≡ b
          → (if b then 1 else 0) ≤ turns_by depth (turning nodes table n) here next move
      fewer_by depth u some came false h = omega arith
      fewer_by depth u some came true h = search (and_both, back_by, move, reads_same, same_depth, eqb-true, arith)

      begun : (depth : ℕ) (u : State) → 1 ≤ depth → Reaches g.passes.before s u
          → turns_begun depth u g.passes.next ≤ turns_by depth (turning nodes table n) here next move
      begun depth u some came = fewer_by depth u some came _ refl

    -- the turns that begin behind the element are counted
    abbrev CountsOn : ℕ → ℕ → Type 0
    CountsOn depth steps =
        (k : ℕ) → k < steps → (m : Moving) (count : ℕ) → BeginTurns depth k g.passes.next count
        → Counted depth (next m) count

    counted_on : (depth k count rest : ℕ) (u : State) → 1 ≤ depth → Reaches g.passes.before s u
        → depth ≤ depth_of g.passes.next → BeginTurns depth k g.passes.next rest
        → count ≡ turns_begun depth u g.passes.next + rest → CountsOn depth (suc k) →
        ComesOn library entry nodes table n below number at.here.node turns s g.passes.goes.target g.passes.next
        → Counted depth (there number turns s at) count
    counted_on depth k count rest u some came stays run is on (Over o) =
        absurd (omega (arith, none_over entry g.passes.next o, stays, some))
    counted_on depth k count rest u some came stays run is on (On m) =
        let counted = on k (omega arith) m rest run in
        let most = begun m depth u some came in
        let many_next = next_many m in
        record {
          moves = suc counted.moves;
          more = turns_by depth (turning nodes table n) (here m) (next m) (move m) + counted.more;
          repeats = (next m, move m, counted.more, omega (arith, many_next, stays), counted.repeats, refl);
          enough = omega (arith, counted.enough, most, is);
        }

    through : (depth k j count : ℕ) (u : State) → 1 ≤ depth → j ≤ g.passes.before → Reaches j s u
        → BeginTurns depth k u count → CountsOn depth k → Counted depth (there number turns s at) count
    through depth zero j count u some l came run on = counted_none depth (there number turns s at) count run
    through depth (suc k) j count u some l came run on =
        by (cases_order j g.passes.before) (λ less came_on. through depth k (suc j) run.1 run.0 some less came_on run.4
        (λ i low. on i (omega (arith, low))))
      where
        there_next : Reaches (suc j) s run.0
        there_next = reaches_more j s u run.0 came run.2

        last : j ≡ g.passes.before → Counted depth (there number turns s at) count
        last e =
            let came_last : Reaches g.passes.before s u = subst (λ j. Reaches j s u) e came in
            let same : u ≡ g.passes.last = one_state g.passes.before s u g.passes.last came_last g.passes.reaches in
            let to : run.0 ≡ g.passes.next =
            same_next run.0 g.passes.next (sym run.2 ∙ (ap step same ∙ g.passes.steps)) in
            counted_on depth k count run.1 u some came_last (subst (λ (t : State). depth ≤ depth_of t) to run.3)
            (subst (λ (t : State). BeginTurns depth k t run.1) to run.4)
            (subst (λ (t : State). count ≡ turns_begun depth u t + run.1) to run.5) on
            (described.goes_on laws c go number turns s at g)

        amid : (less : suc j ≤ g.passes.before) → Counted depth (there number turns s at) run.1
            → Counted depth (there number turns s at) count
        amid less counted =
            let long = (g.amid (suc j) run.0 (omega arith) less there_next).long in
            let none = none_begun depth u run.0 (reads_same j u l came ∙ long_none at.here.node.element long) in
            record {
              moves = counted.moves;
              more = counted.more;
              repeats = counted.repeats;
              enough = omega (arith, counted.enough, none, run.5);
            }

        by : (j ≡ g.passes.before) ⊎ ((j < g.passes.before) ⊎ (g.passes.before < j))
            → ((less : suc j ≤ g.passes.before) → Reaches (suc j) s run.0
            → Counted depth (there number turns s at) run.1) → Counted depth (there number turns s at) count
        by (inl e) on = last e
        by (inr (inl less)) on = amid (omega (arith, less)) (on (omega (arith, less)) there_next)
        by (inr (inr more)) on = absurd (omega (arith, l, more))

  counts : (fuel depth k count number : ℕ) (turns : List OpenTurn) (s : State) (at : At number turns s) → k < fuel
      → 1 ≤ depth → BeginTurns depth k s count → Counted depth (there number turns s at) count
  counts zero depth k count number turns s at l some run = absurd (omega (arith, l))
  counts (suc fuel) depth zero count number turns s at l some run =
      counted_none depth (there number turns s at) count run
  counts (suc fuel) depth (suc k) count number turns s at l some run =
      by (go number turns at.total s at.reached at.here at.files)
      (λ g i less m later_count later_run. counts fuel depth i later_count g.passes.goes.target m.later g.passes.next
      (later number turns s at g m) (omega (arith, l, less)) some later_run)
    where
      by : (step s ≡ End s.world) ⊎ Goes library entry nodes table n below number turns s at.here
          → ((g : Goes library entry nodes table n below number turns s at.here) (i : ℕ) → i < suc k
          → (m : Moving number turns s at g) (count : ℕ) → BeginTurns depth i g.passes.next count
          → Counted depth (next number turns s at g m) count) →
          Counted depth (there number turns s at) count
      by (inl e) on = let z : End s.world ≡ Next run.0 = sym e ∙ run.2 in absurd (cc)
      by (inr g) on = through number turns s at g depth (suc k) 0 count s some (omega arith)
          (reaches_here s) run (on g)

  -- ---- a step that enters an iteration
  module _ (number : ℕ) (turns : List OpenTurn) (begun : State) (at : At number turns begun)
      (g : Goes library entry nodes table n below number turns begun at.here) (j : ℕ) (s t : State)
      (l : j ≤ g.passes.before) (came : Reaches j begun s) (enters : Enters s t) where
    -- it is the last of its element
    last_step : j ≡ g.passes.before
    last_step = by (cases_order j g.passes.before)
      where
        by : (j ≡ g.passes.before) ⊎ ((j < g.passes.before) ⊎ (g.passes.before < j)) → j ≡ g.passes.before
        by (inl e) = e
        by (inr (inl less)) =
            let before = same_depth number turns begun at g j s l came in
            let after = same_depth number turns begun at g (suc j) t (omega (arith, less))
            (reaches_more j begun s t came enters.goes) in
            absurd (omega (arith, before, after, enters.opens))
        by (inr (inr more)) = absurd (omega (arith, l, more))

    last_is : s ≡ g.passes.last
    last_is = one_state g.passes.before begun s g.passes.last (subst (λ k. Reaches k begun s) last_step came)
        g.passes.reaches

    next_is : t ≡ g.passes.next
    next_is = same_next t g.passes.next (sym enters.goes ∙ (ap step last_is ∙ g.passes.steps))

    next_opens : depth_of g.passes.next ≡ suc (depth_of begun)
    next_opens = ap depth_of (sym next_is) ∙ (enters.opens ∙ ap suc (same_depth number turns begun at g j s l came))

    module _ (m : MovesOn library nodes table n below number at.here.node turns begun g.passes.goes.target
        g.passes.next) where
      abbrev from : Shown
      from = here number turns begun at g m

      abbrev to : Shown
      to = next number turns begun at g m

      is_entry : Move (turning nodes table n) from to → EntersLoop (turning nodes table n) from to
      is_entry (Into into) = into
      is_entry (Forward goes) =
          let fewer = still_length (λ (o : OpenLoop). end_of nodes o.begin) g.passes.goes.target from.opened in
          absurd (omega (
            arith,
            fewer,
            ap length goes.opened,
            here_many number turns begun at g m,
            next_many number turns begun at g m,
            next_opens,
          ))
      is_entry (Back returns) =
          absurd (omega (
            arith,
            ap length returns.old_opened,
            ap length returns.new_opened,
            here_many number turns begun at g m,
            next_many number turns begun at g m,
            next_opens,
          ))

      entry_is : EntersLoop (turning nodes table n) from to
      entry_is = is_entry (move number turns begun at g m)

      begin : IsBegin nodes number
      begin = (closed.begins number entry_is.is_loop).0

      -- and the only one
      not_long : (read : Option Element) → read ≡ Some begin.element → IsLong read → ⊥
      not_long read e long =
          let z : true ≡ false = sym (subst IsLong e long) ∙ ap is_long begin.kind_is in absurd (cc)

      alone : (i : ℕ) → j ≡ i → begun ≡ s
      alone zero e = reaches_none begun s (subst (λ k. Reaches k begun s) e came)
      alone (suc i) e =
          let reads = ap (λ (node : Node). node.element)
          (same_node nodes number at.here.node begin.node at.here.at begin.at) ∙ begin.reads in
          absurd (not_long at.here.node.element reads (g.amid j s (omega (arith, e)) l came).long)

      most_turns : (steps count : ℕ) → BeginTurns (depth_of t) steps t count
          → suc count ≤ value_of n (turns_at table number)
      most_turns steps count run =
          let opens = enters.opens in
          let some : 1 ≤ depth_of t = omega (arith, opens) in
          let counted = counts (suc steps) (depth_of t) steps count g.passes.goes.target m.later g.passes.next
          (later number turns begun at g m) (omega arith) some
          (subst (λ (u : State). BeginTurns (depth_of t) steps u count) next_is run) in
          let depth : depth_of t ≡ length to.opened = ap depth_of next_is ∙ sym (next_many number turns begun at g m) in
          let all = bounded (turning nodes table n) zeroth from to at.moves counted.moves counted.more
          (ending.closed laws c (described.pass laws c go)) begins
          (came_leads (turning nodes table n) at.moves zeroth from at.total at.came) entry_is
          (subst (λ depth. Repeats (turning nodes table n) depth counted.moves to counted.more) depth counted.repeats)
          in
          omega (arith, all, counted.enough)

      few_turns : (r : Result Polynomial RefusalReason) → turns_at table number ≡ r
          → TakesFewTurns library nodes table n below s t
      few_turns (Ok most) e = subst (λ (s : State). TakesFewTurns library nodes table n below s t) (alone j refl)
          (record {
            number = number;
            turns = turns;
            begin = begin;
            here = at.here;
            most = most;
            known = e;
            few = λ steps count run. subst (λ r. suc count ≤ value_of n r) e (most_turns steps count run);
          })
      few_turns (Err why) e = let one : 1 ≤ value_of n (Err why) =
          subst (λ r. 1 ≤ value_of n r) e (most_turns 0 0 refl) in absurd (omega (arith, one))

    few_behind : ComesOn library entry nodes table n below number at.here.node turns begun g.passes.goes.target
        g.passes.next → TakesFewTurns library nodes table n below s t
    few_behind (Over o) = absurd (omega (arith, none_over entry g.passes.next o, next_opens))
    few_behind (On m) = few_turns m _ refl

    few_there : TakesFewTurns library nodes table n below s t
    few_there = few_behind (described.goes_on laws c go number turns begun at g)

  module _ (s t : State) (enters : Enters s t) where
    few_here : (number : ℕ) (turns : List OpenTurn) (at : At number turns s)
        → (step s ≡ End s.world) ⊎ Goes library entry nodes table n below number turns s at.here
        → TakesFewTurns library nodes table n below s t
    few_here number turns at (inl e) = let z : End s.world ≡ Next t = sym e ∙ enters.goes in absurd (cc)
    few_here number turns at (inr g) = few_there number turns s at g 0 s t (omega arith) (reaches_here s) enters

    few_where : described.Comes laws c go s → TakesFewTurns library nodes table n below s t
    few_where (described.Here number turns at) =
        few_here number turns at (go number turns at.total s at.reached at.here at.files)
    few_where (described.Within number turns begun at g k l came) =
        few_there number turns begun at g (suc k) s t l came enters
    few_where (described.Behind o above) = let z : End s.world ≡ Next t = sym (laws.over entry s o) ∙ enters.goes in
        absurd (cc)

    pub few : (steps number : ℕ) (turns : List OpenTurn) (from : State) → At number turns from → Reaches steps from s
        → TakesFewTurns library nodes table n below s t
    few steps number turns from at came =
        few_where (described.comes laws c go (suc steps) steps number turns from s at (omega arith) came)

pub turns_are_bounded : ending.Laws → verifying.Laws → IterationsEnd → TurnsAreBounded → IterationsAreBounded
turns_are_bounded laws sound ends bounded library entry argument given nodes table commands most n world are
    printed asked ready files steps s t came enters =
    let call = ready_call library entry argument given nodes table commands most n world are printed asked ready
    in
    let go = verifying.elements_go sound ends library entry argument given nodes table commands most n world are
    printed asked ready in
    few laws sound.sound bounded (course call) go (ends library entry nodes are) s t enters steps 1 []
    (start_given entry given world) (described.at_first laws call go files) came
