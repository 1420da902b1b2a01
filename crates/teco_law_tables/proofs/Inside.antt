-- What is known of where an element stands: in which iteration, and where it jumps.
use Rattle.teco_law_tables.proofs.Prelude.{◌≡◌, ℕ, ◌≤◌, ◌<◌, refl, sym, ap, ◌∙◌, subst, arith, List, [], ◌∷◌, ◌++◌, map}
use Rattle.teco_law_tables.proofs.Prelude.{Bool, true, false, Option, Some, None, Ok, IsTrue, AllByRecursion}
use Rattle.teco_law_tables.proofs.Prelude.{option_map_or, OpenTurn, loops_in, AreMore, IsOpened, AreOpened, Loop, Flow}
use Rattle.teco_law_tables.proofs.Prelude.{Kind, Search, Whole, Element, skip_of, Frame, Descend, IsBegin, AreClosed}
use Rattle.teco_law_tables.proofs.Prelude.{end_of, Position, start_of, element_ways, ways_at, and_both, body_start}
use Rattle.teco_law_tables.proofs.Prelude.{each_covers, is_same_iteration, covers, Iteration, Facts, Edges}
use Rattle.teco_law_tables.proofs.Prelude.{without_answer, placed, edges_at, is_counted, is_known_in, Table, changes_in}
use Rattle.teco_law_tables.proofs.Prelude.{bound}
use Rattle.teco_verifier.specs.expansion.Ways.{search_ways}
use Rattle.teco_model.specs.declared.kind.Flow.TheVariants as flow
use Rattle.teco_model.specs.declared.kind.Goal.TheVariants as goal
use Rattle.teco_model.specs.declared.kind.Kind.TheVariants as kind
use Rattle.teco_verifier.specs.facts.Searches.{facts_at_search}
use Rattle.teco_law_facts.specs.SoundSteps.{IsInside, LeadsAhead, FlowStands, KindStands}
use Rattle.teco_verifier.specs.facts.Transfer.{search_allowed}
use Rattle.teco_verifier.specs.table.Behind.{is_inside}
use Rattle.teco_law_tables.proofs.Ground.{Ground, Arrival}
use Rattle.teco_law_tables.proofs.Coming.{HasLoop}
use Rattle.teco_law_tables.proofs.Entered.{counted_by}
use Rattle.teco_law_tables.proofs.Entering.{kind_edges, Entering, enters}
use Rattle.teco_law_tables.proofs.Going.{known_in}
use Rattle.teco_law_runs.proofs.Targets.{JumpPlace, HasStart, FlowHas, flow_has, search_has}
use Rattle.teco_law_tables.proofs.Reading.{Body, body_is}

has_loop : (frame : Frame) (loops : List Loop) → frame.loops ≡ loops → HasStart (map start_of loops) → HasLoop frame
has_loop frame [] e h = absurd h
has_loop frame (loop ∷ outer) e h = record { loop = loop; outer = outer; is = e }

record Head (table : Table) (n : ℕ) (begins : List ℕ) (loop : Loop) : Type 0 where
  begin : ℕ
  outer : List ℕ
  turn : OpenTurn
  turns : List OpenTurn
  is : begins ≡ begin ∷ outer
  own : IsOpened table n begin loop turn turns

head : (table : Table) (n : ℕ) (begins : List ℕ) (loop : Loop) (loops : List Loop) (turns : List OpenTurn)
    → AreOpened table n begins (loop ∷ loops) turns → Head table n begins loop
head table n (b ∷ begins) loop loops (t ∷ turns) h =
    record { begin = b; outer = begins; turn = t; turns = turns; is = refl; own = h.0 }
head table n begins loop loops turns h = absurd (grind arith)

record NotEmpty (is : List Iteration) : Type 0 where
  one : Iteration
  others : List Iteration
  are : is ≡ one ∷ others

not_empty : (is js : List Iteration) (j : Iteration) (rest : List Iteration)
    → IsTrue (each_covers is_same_iteration is js) → js ≡ j ∷ rest → NotEmpty is
not_empty [] js j rest c e = let z : IsTrue (each_covers is_same_iteration [] (j ∷ rest)) =
    subst (λ js. IsTrue (each_covers is_same_iteration [] js)) e c in absurd (cc)
not_empty (i ∷ is) js j rest c e = record { one = i; others = is; are = refl }

not_empty_of : (is js : List Iteration) (i : Iteration) (rest : List Iteration)
    → IsTrue (each_covers is_same_iteration is js) → is ≡ i ∷ rest → NotEmpty js
not_empty_of is [] i rest c e = let z : IsTrue (each_covers is_same_iteration (i ∷ rest) []) =
    subst (λ is. IsTrue (each_covers is_same_iteration is [])) e c in absurd (cc)
not_empty_of is (j ∷ js) i rest c e = record { one = j; others = js; are = refl }

iterations_covered : (facts edge : Facts) → IsTrue (covers facts edge)
    → IsTrue (each_covers is_same_iteration facts.iterations edge.iterations)
iterations_covered facts edge c =
    let p = and_both _ _ c in
    let q = and_both _ _ p.0 in
    let r = and_both _ _ q.0 in
    let s = and_both _ _ r.0 in
    (and_both _ _ s.0).1

counted_where : (left : Option ℕ) (counted : Bool) (turn : OpenTurn) (turns : ℕ) → left ≡ Some turns
    → AreMore left counted turn → counted ≡ true
counted_where None counted turn turns e h = absurd (cc)
counted_where (Some left) counted turn turns e h = h.0

module _ (ground : Ground) (closed : AreClosed ground.nodes) (arrival : Arrival ground) where
  open ground use {library, entry, nodes, table, n, below, are, passes}
  open arrival use {number, turns, s, here}

  loop_there : HasStart here.node.stand.position.running.starts → HasLoop s.frames.running
  loop_there h = has_loop s.frames.running s.frames.running.loops refl
      (subst HasStart (ap (λ (p : Position). p.running.starts) here.position) h)

  module _ (has : HasLoop s.frames.running) where
    top : Head table n here.node.stand.iterations has.loop
    top = head table n here.node.stand.iterations has.loop (has.outer ++ loops_in s.frames.callers) turns
        (subst (λ (ls : List Loop). AreOpened table n here.node.stand.iterations
        (ls ++ loops_in s.frames.callers) turns) has.is here.opened)

    before : top.begin < number
    before = (subst (Descend number) top.is (closed.descend number here.node here.at)).0

    behind : number ≤ end_of nodes top.begin
    behind = (subst (AllByRecursion (λ b. number ≤ end_of nodes b)) top.is (closed.ahead number here.node here.at)).0

    begin : IsBegin nodes top.begin
    begin = (closed.begins top.begin (omega (arith, before, behind))).0

    body : Body nodes table top.begin begin.node top.own.start
    body = body_is nodes table top.begin begin.node top.own.start top.own.started begin.element begin.reads
        begin.kind_is passes begin.at

    entering : Entering body.facts body.entering
    entering = enters nodes begin.node begin.element body.facts body.entering body.edges begin.reads begin.kind_is
        body.leads body.on

    start_some : NotEmpty top.own.start.iterations
    start_some = not_empty top.own.start.iterations body.entering.iterations _ _
        (iterations_covered top.own.start (body_start body.choice (changes_in nodes top.begin) body.entering)
        (and_both _ _ body.same).0)
        (ap (λ (facts : Facts). facts.iterations) entering.is)

    same_there : IsTrue (each_covers is_same_iteration top.own.start.iterations here.facts.iterations)
    same_there =
        let known : IsTrue (is_known_in table (top.begin ∷ top.outer) here.facts) =
        subst (λ begins. IsTrue (is_known_in table begins here.facts)) top.is
        (known_in nodes table number here.node here.facts passes here.at here.known) in
        subst (λ (o : Option Facts). IsTrue
        (option_map_or (λ (start : Facts). each_covers is_same_iteration start.iterations here.facts.iterations) o
        false)) top.own.started known

    here_some : NotEmpty here.facts.iterations
    here_some = not_empty_of top.own.start.iterations here.facts.iterations start_some.one start_some.others same_there
        start_some.are

    pub inside_is : IsInside here.facts s.frames.running
    inside_is = record {
      loop = has.loop;
      outer = has.outer;
      loops = has.is;
      iteration = here_some.one;
      others = here_some.others;
      iterations = here_some.are;
      counted = λ left e. sym (ap is_counted here_some.are)
          ∙ (sym (counted_by top.own.start.iterations here.facts.iterations same_there)
          ∙ counted_where has.loop.turns (is_counted top.own.start.iterations) top.turn left e top.own.more);
    }

  module _ (e : Element) (reads : here.node.element ≡ Some e) (edges : Edges)
      (leads : edges_at nodes here.node here.facts ≡ Ok edges) where
    jumps : JumpPlace e here.node.stand.position → LeadsAhead e s.frames.running
    jumps j = (j.0, subst (λ (p : Position). (skip_of p.running.text (Whole e)).to ≡ Some j.0) here.position j.1)

    flow_stands : (f : Flow) → FlowHas f e here.node.stand.position
        → FlowStands f here.facts (placed nodes here.node e) s.frames.running
    flow_stands flow.EndTurn h = inside_is (loop_there h)
    flow_stands flow.Leave h = (inside_is (loop_there h.0), jumps h.1)
    flow_stands flow.EndTest h = tt
    flow_stands flow.Comment h = tt
    flow_stands (flow.GoAhead goal.EndTurn) h = (inside_is (loop_there h.0), jumps h.1)
    flow_stands f h = jumps h

    ways_are : (k : Kind) → e.kind ≡ k
        → element_ways library k e here.node.stand.position ≡ Ok (are.each number here.node here.at).targets
    unfolding ways_at
    ways_are k is =
        subst (λ k. element_ways library k e here.node.stand.position ≡ Ok (are.each number here.node here.at).targets)
        is
        (ap (λ read. ways_at library read here.node.stand.position) (sym reads)
        ∙ (are.each number here.node here.at).goes)

    allowed : (inside colon : Bool) (u : Unit {0}) → search_allowed inside colon ≡ Ok u → colon ≡ false → inside ≡ true
    allowed true colon u h c = refl
    allowed inside colon u h c = absurd (grind arith)

    start_of_text : (starts : List ℕ) → is_inside starts ≡ true → HasStart starts
    start_of_text [] h = absurd (cc)
    start_of_text (start ∷ outer) h = tt

    pub search_start : (q : Search) → e.kind ≡ kind.Search q → (placed nodes here.node e).colon ≡ false
        → HasStart here.node.stand.position.running.starts
    search_start q is colon =
        let taken = bound (facts_at_search q (without_answer here.facts)) _ edges
        (kind_edges nodes here.node e (kind.Search q) here.facts edges reads is leads) in
        let free = bound (search_allowed (placed nodes here.node e).inside (placed nodes here.node e).colon) _ edges
        taken.gives in
        start_of_text here.node.stand.position.running.starts
        (allowed (placed nodes here.node e).inside (placed nodes here.node e).colon free.before free.was colon)

    kind_stands : (k : Kind) → e.kind ≡ k → KindStands k here.facts (placed nodes here.node e) s.frames.running
    kind_stands (kind.Flow f) is = flow_stands f
        (flow_has f e here.node.stand.position (are.each number here.node here.at).targets (ways_are (kind.Flow f) is))
    kind_stands (kind.Search q) is = λ colon.
        let start = search_start q is colon in
        let ways : search_ways false here.node.stand.position.running.starts e here.node.stand.position ≡ Ok
        (are.each number here.node here.at).targets =
        subst (λ colon. search_ways colon here.node.stand.position.running.starts e here.node.stand.position ≡ Ok
        (are.each number here.node here.at).targets) colon (ways_are (kind.Search q) is) in (
          inside_is (loop_there start),
          jumps
              (search_has here.node.stand.position.running.starts e here.node.stand.position
              (are.each number here.node here.at).targets ways start),
        )
    kind_stands k is = tt

    pub stands : KindStands e.kind here.facts (placed nodes here.node e) s.frames.running
    stands = kind_stands e.kind refl

    pub search_inside : (q : Search) → e.kind ≡ kind.Search q → (placed nodes here.node e).colon ≡ false
        → HasLoop s.frames.running
    search_inside q is colon = loop_there (search_start q is colon)
