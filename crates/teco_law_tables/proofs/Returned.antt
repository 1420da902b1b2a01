-- A step of > back to the start of its body begins a further turn.
use Rattle.teco_law_tables.proofs.Prelude.{◌≡◌, ℕ, zero, suc, ◌+◌, ◌-◌, ◌≤◌, ◌<◌, refl, sym, ap, ◌∙◌, subst, arith}
use Rattle.teco_law_tables.proofs.Prelude.{List, [], ◌∷◌, ◌++◌, map, drop, Bool, false, Option, Some, None, is_some}
use Rattle.teco_law_tables.proofs.Prelude.{length, true, IsTrue, Back, Loop, Element, Turn, World, State, Descend}
use Rattle.teco_law_tables.proofs.Prelude.{IsBegin, AreClosed, end_of, LeadsBy, LeadsByKind, place_at, Node, numbered}
use Rattle.teco_law_tables.proofs.Prelude.{stand_at, position_of, StepWas, ElementWas, Turns, Polynomial, value}
use Rattle.teco_law_tables.proofs.Prelude.{and_both, covers_are_sound, Changes, Choice, body_start, choice_stands}
use Rattle.teco_law_tables.proofs.Prelude.{run_behind, Describes, HasFallen, fore_of, Facts, entered, unread_of}
use Rattle.teco_law_tables.proofs.Prelude.{is_counted, OpenTurn, begun_of, run_at, loops_in, open_loops, AreMore}
use Rattle.teco_law_tables.proofs.Prelude.{IsOpened, AreOpened, IsDescribed, held_of, loops_of, shown, MovesOn, Table}
use Rattle.teco_law_tables.proofs.Prelude.{facts_at, choice_at, is_reached, held_at, turning, changes_in, length-map}
use Rattle.teco_law_turns.specs.Moves as moves
use Rattle.teco_model.specs.declared.kind.Flow.TheVariants as flow
use Rattle.teco_model.specs.declared.kind.Kind.TheVariants as kind
use Rattle.teco_model.specs.Arguments as model
use Rattle.teco_law_runs.specs.Leading.{IsBack}
use Rattle.teco_law_runs.specs.Turns as went
use Rattle.teco_law_facts.proofs.Bodies.{returns_are_sound, turns_fall}
use Rattle.teco_verifier.specs.facts.Bodies.{returns}
use Rattle.teco_law_facts.specs.Describes.{run_in_turn, AreEach}
use Rattle.teco_law_facts.specs.Laws.{IsCarried, BeginsAgain}
use Rattle.teco_law_tables.proofs.Ground.{Ground, Passage}
use Rattle.teco_law_tables.proofs.Closing.{held_known, held_same}
use Rattle.teco_law_tables.proofs.Entered.{counted_covered, not_again, world_same}
use Rattle.teco_law_tables.proofs.Entering.{Entering, enters}
use Rattle.teco_law_tables.proofs.Going.{Laws, stands_there, leads_there}
use Rattle.teco_law_tables.proofs.Reading.{Body, body_is}
use Rattle.teco_law_tables.proofs.Standing.{ending}

same_some : {X : Type 0} (o : Option X) (x y : X) → o ≡ Some x → o ≡ Some y → x ≡ y
same_some o x y h g = let e : Some x ≡ Some y = sym h ∙ g in cc

-- the innermost open iteration, and the others
record Innermost (table : Table) (n begin : ℕ) (begins : List ℕ) (loop : Loop) (loops : List Loop)
    (turns : List OpenTurn) : Type 0 where
  turn : OpenTurn
  outer : List OpenTurn
  turns_are : turns ≡ turn ∷ outer
  own : IsOpened table n begin loop turn outer
  rest : AreOpened table n begins loops outer

innermost : (table : Table) (n begin : ℕ) (begins : List ℕ) (loop : Loop) (loops : List Loop) (turns : List OpenTurn)
    → AreOpened table n (begin ∷ begins) (loop ∷ loops) turns → Innermost table n begin begins loop loops turns
innermost table n begin begins loop loops [] h = absurd h
innermost table n begin begins loop loops (turn ∷ outer) h =
    record { turn = turn; outer = outer; turns_are = refl; own = h.0; rest = h.1 }

-- one turn fewer comes after this one
record Fewer (counted : Bool) (turn : OpenTurn) (ahead : ℕ) (left : Option ℕ) : Type 0 where
  some : turn.more ≡ suc (turn.more - 1)
  is : AreMore left counted (record { begun = ahead; more = turn.more - 1 })

fewer : (counted : Bool) (turn : OpenTurn) (ahead : ℕ) (now next : Option ℕ) → AreMore now counted turn
    → went.CountsDown now next → (counted ≡ false → ahead + 1 ≤ turn.begun) → Fewer counted turn ahead next
fewer counted turn ahead None next are counts falls =
    let less = falls are.0 in record {
      some = omega (arith, are.1, less);
      is = subst (λ left. AreMore left counted (record { begun = ahead; more = turn.more - 1 })) (sym counts) (
        are.0,
        omega (arith, are.1, less),
      );
    }
fewer counted turn ahead (Some left) next are counts falls = record {
  some = omega (arith, are.1, counts.2);
  is = subst (λ left. AreMore left counted (record { begun = ahead; more = turn.more - 1 })) (sym counts.1) (
    are.0,
    omega (arith, are.1, counts.2),
  );
}

returns_by : (choice : Choice) (changes : Changes) (most : Polynomial) (entering end : Facts) (counted : Bool)
    (facts : Facts) → entering ≡ entered counted facts
    → IsTrue (choice_stands choice changes (is_counted entering.iterations) most entering (Some end))
    → IsTrue (returns choice changes counted most (entered counted facts) end)
returns_by choice changes most entering end counted facts e h =
    (and_both _ _
    (subst (λ (entering : Facts). IsTrue
    (choice_stands choice changes (is_counted entering.iterations) most entering (Some end))) e h)).1

module _ (laws : Laws) (ground : Ground) (closed : AreClosed ground.nodes) (passage : Passage ground) where
  open ground use {library, entry, nodes, table, n, below, are, passes}
  open passage use {number, turns, s, last, t, here, again, goes, comes, loaded, whole}

  module _ (there : Node) (at : numbered nodes goes.target ≡ Some there)
      (stand : there.stand ≡ stand_at number here.node.stand (position_of t)) where
    module _ (e : Element) (reads : here.node.element ≡ Some e) (is : e.kind ≡ kind.Flow flow.EndTurn)
        (first : goes.way ≡ 0) where
      was : Turns flow.EndTurn zero e s t
      was = subst (λ (last : State). Turns flow.EndTurn zero e last t)
          (not_again flow.EndTurn e here.node.element s last reads is again)
          (subst (λ k. ElementWas k zero e last t) is
          (subst (λ way. StepWas (Some e) way last t) first
          (subst (λ read. StepWas read goes.way last t) reads goes.was)))

      back : IsBack (place_at number here.node.stand) (place_at goes.target there.stand)
      back = subst (λ k. LeadsByKind k zero (place_at number here.node.stand) (place_at goes.target there.stand)) is
          (subst (λ way. LeadsBy (Some e) way (place_at number here.node.stand) (place_at goes.target there.stand))
          first
          (subst (λ read. LeadsBy read goes.way (place_at number here.node.stand) (place_at goes.target there.stand))
          reads
          (leads_there laws ground closed passage there at stand)))

      same_world : t.world ≡ s.world
      same_world = world_same flow.EndTurn zero e s t was

      abbrev begun : ℕ
      begun = fore_of s.world.kept + unread_of s.world

      opened : Innermost table n back.begin back.outer was.went.loop (was.went.outer ++ loops_in s.frames.callers)
          turns
      opened = innermost table n back.begin back.outer was.went.loop (was.went.outer ++ loops_in s.frames.callers)
          turns
          (subst (λ ls. AreOpened table n (back.begin ∷ back.outer) (ls ++ loops_in s.frames.callers) turns)
          was.went.inside
          (subst (λ begins. AreOpened table n begins (open_loops s) turns) back.innermost here.opened))

      ends_here : end_of nodes back.begin ≡ number
      ends_here = closed.only number here.node back.begin here.at
          (ending here.node e back.begin back.outer reads is back.innermost)

      before : back.begin < number
      before = (subst (Descend number) back.innermost (closed.descend number here.node here.at)).0

      begin : IsBegin nodes back.begin
      begin = (closed.begins back.begin (omega (arith, before, ends_here))).0

      body : Body nodes table back.begin begin.node opened.own.start
      body = body_is nodes table back.begin begin.node opened.own.start opened.own.started begin.element begin.reads
          begin.kind_is passes begin.at

      entering : Entering body.facts body.entering
      entering = enters nodes begin.node begin.element body.facts body.entering body.edges begin.reads begin.kind_is
          body.leads body.on

      abbrev counted : Bool
      counted = is_some entering.taken.value

      counted_is : is_counted opened.own.start.iterations ≡ counted
      counted_is = counted_covered opened.own.start (body_start body.choice (changes_in nodes back.begin) body.entering)
          (and_both _ _ body.same).0 ∙ ap (λ (facts : Facts). is_counted facts.iterations) entering.is

      known_here : facts_at table (end_of nodes back.begin) ≡ Some here.facts
      known_here = ap (facts_at table) ends_here ∙ here.known

      returning : IsTrue (returns body.choice (changes_in nodes back.begin) counted body.most
          (entered counted body.facts) here.facts)
      returning = returns_by body.choice (changes_in nodes back.begin) body.most body.entering here.facts counted
          body.facts entering.is
          (subst (λ o. IsTrue (choice_stands body.choice (changes_in nodes back.begin)
          (is_counted body.entering.iterations) body.most body.entering o)) known_here body.stands_there)

      begun_are : map begun_of turns ≡ opened.turn.begun ∷ map begun_of opened.outer
      begun_are = ap (λ turns. map begun_of turns) opened.turns_are

      falls : is_counted opened.own.start.iterations ≡ false → begun + 1 ≤ opened.turn.begun
      falls none = turns_fall (run_at n below turns) here.facts (unread_of s.world) s.world.kept s.arguments
          body.choice (changes_in nodes back.begin) body.most (entered counted body.facts) opened.turn.begun
          (map begun_of opened.outer)
          (subst (λ b. IsTrue (returns body.choice (changes_in nodes back.begin) b body.most
          (entered counted body.facts) here.facts)) (sym counted_is ∙ none) returning)
          here.described begun_are

      less : Fewer (is_counted opened.own.start.iterations) opened.turn begun was.went.turns
      less = fewer (is_counted opened.own.start.iterations) opened.turn begun was.went.loop.turns was.went.turns
          opened.own.more was.went.counts falls

      abbrev turn : OpenTurn
      turn = record { begun = begun; more = opened.turn.more - 1 }

      abbrev later : List OpenTurn
      later = turn ∷ opened.outer

      target_is : goes.target ≡ suc back.begin
      target_is = back.number

      started_at : facts_at table goes.target ≡ Some opened.own.start
      started_at = ap (facts_at table) target_is ∙ opened.own.started

      -- the move
      returning_it : moves.Returns (turning nodes table n)
          (shown number here.node.stand.iterations turns s.world)
          (shown goes.target there.stand.iterations later t.world)
      returning_it = record {
        begin = back.begin;
        more = Some opened.turn.more;
        left = Some (opened.turn.more - 1);
        outer = loops_of back.outer opened.outer;
        at_end = sym ends_here;
        node = target_is;
        reached = ap (is_reached table) target_is ∙ ap (λ (o : Option Facts). is_some o) opened.own.started;
        old_opened = ap (λ ls. loops_of ls turns) back.innermost
            ∙ ap (λ turns. loops_of (back.begin ∷ back.outer) turns) opened.turns_are;
        new_opened = ap (λ ls. loops_of ls later) (back.same ∙ back.innermost);
        begins = let w : held_of t.world ≡ held_of s.world = ap held_of same_world in
            record { held = omega (arith, w); ahead = omega (arith, w); within = omega arith };
        counts = (opened.turn.more - 1, less.some, refl);
      }

      -- what is known at the start of the body describes the state there
      same_facts : opened.own.facts ≡ body.facts
      same_facts = same_some (facts_at table back.begin) opened.own.facts body.facts opened.own.known body.known

      same_choice : opened.own.choice ≡ body.choice
      same_choice = same_some (choice_at table back.begin) opened.own.choice body.choice opened.own.chosen body.chosen

      falls_many : length body.facts.position.falls ≡ length opened.outer
      falls_many = sym (ap (λ (facts : Facts). length facts.position.falls) same_facts) ∙ opened.own.falls

      carried : body.choice.kept ≡ true
          → IsCarried (run_at n below turns) body.facts opened.turn.begun (map begun_of opened.outer)
      carried k =
          let kept : opened.own.choice.kept ≡ true = ap (λ (choice : Choice). choice.kept) same_choice ∙ k in
          record {
            ahead = subst (λ (facts : Facts). opened.turn.begun ≤ value facts.position.ahead n) same_facts
                (opened.own.ahead kept);
            falls = subst (λ (facts : Facts). AreEach (HasFallen opened.turn.begun) facts.position.falls
                (map begun_of opened.outer)) same_facts (opened.own.fallen kept);
          }

      held_start : held_at nodes table n goes.target ≡ value body.choice.held n
      held_start = ap (held_at nodes table n) target_is
          ∙ (held_known nodes table n (suc back.begin) opened.own.start opened.own.started
          ∙ held_same opened.own.start (body_start body.choice (changes_in nodes back.begin) body.entering) n body.same)

      module _ (few : held_of t.world ≤ held_at nodes table n goes.target) where
        next_turn : BeginsAgain (run_at n below turns) body.facts
            (body_start body.choice (changes_in nodes back.begin) (entered counted body.facts))
            (unread_of s.world) s.world.kept body.choice.kept (map begun_of opened.outer)
        next_turn = returns_are_sound (run_at n below turns) body.facts here.facts
            (unread_of s.world) s.world.kept s.arguments body.choice (changes_in nodes back.begin) counted body.most
            opened.turn.begun (map begun_of opened.outer)
            here.whole returning here.described begun_are (falls_many ∙ sym (length-map opened.outer begun_of))
            (let w : held_of t.world ≡ held_of s.world = ap held_of same_world in
            omega (arith, few, w, held_start)) carried

        run_is : run_in_turn (unread_of s.world) s.world.kept (run_behind 1 (run_at n below turns)) ≡ run_at n below
            later
        run_is = ap (λ (all : List ℕ). record { n = n; turns = begun ∷ drop 1 all; below = below }) begun_are

        described_start : Describes (run_at n below later) opened.own.start
            (unread_of s.world) s.world.kept model.no_arguments
        described_start = covers_are_sound (run_at n below later) opened.own.start
            (body_start body.choice (changes_in nodes back.begin) body.entering)
            (unread_of s.world) s.world.kept model.no_arguments here.whole (and_both _ _ body.same).0
            (subst (λ facts. Describes (run_at n below later)
            (body_start body.choice (changes_in nodes back.begin) facts)
            (unread_of s.world) s.world.kept model.no_arguments) (sym entering.is)
            (subst (λ run. Describes run (body_start body.choice (changes_in nodes back.begin)
            (entered counted body.facts)) (unread_of s.world) s.world.kept model.no_arguments) run_is
            next_turn.described))

        arguments_are : t.arguments ≡ model.no_arguments
        arguments_are = ap (λ (t : State). t.arguments) was.gone ∙ ap (λ (turn : Turn). turn.arguments) was.went.gone

        described_there : Describes (run_at n below later) opened.own.start
            (unread_of t.world) t.world.kept t.arguments
        described_there = subst (λ arguments. Describes (run_at n below later) opened.own.start
            (unread_of t.world) t.world.kept arguments) (sym arguments_are)
            (subst (λ (world : World). Describes (run_at n below later) opened.own.start
            (unread_of world) world.kept model.no_arguments) (sym same_world) described_start)

        opened_there : AreOpened table n there.stand.iterations (open_loops t) later
        opened_there =
            let to : open_loops t ≡ record { start = was.went.loop.start; turns = was.went.turns } ∷
            (was.went.outer ++ loops_in s.frames.callers) =
            ap open_loops was.gone ∙ ap (λ (turn : Turn). turn.frame.loops ++ loops_in s.frames.callers)
            was.went.gone in
            let own : IsOpened table n back.begin (record { start = was.went.loop.start; turns = was.went.turns })
            turn opened.outer = record {
              facts = body.facts;
              start = opened.own.start;
              choice = body.choice;
              known = body.known;
              started = opened.own.started;
              chosen = body.chosen;
              more = less.is;
              falls = falls_many;
              ahead = λ k. (next_turn.carried k).ahead;
              fallen = λ k. (next_turn.carried k).falls;
            } in
            subst (λ ls. AreOpened table n ls (open_loops t) later) (sym (back.same ∙ back.innermost))
            (subst (λ ls. AreOpened table n (back.begin ∷ back.outer) ls later) (sym to) (own, opened.rest))

        described_again : IsDescribed library nodes table n below goes.target later t
        described_again = search (started_at, stands_there, opened_there, described_there)

      pub begins_further : MovesOn library nodes table n below number here.node turns s goes.target t
      begins_further = record {
        there = there;
        at = at;
        later = later;
        move = Back returning_it;
        held = described_again;
      }
