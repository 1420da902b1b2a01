-- A closed table is closed as a table of numbers.
use Rattle.teco_law_tables.proofs.Prelude.{◌≡◌, ℕ, zero, suc, ◌+◌, ◌-◌, ◌*◌, ◌≤◌, ◌<◌, ◌==◌, refl, sym, ap, ◌∙◌, arith}
use Rattle.teco_law_tables.proofs.Prelude.{inr, eqb-true, ℤ, pos, List, [], ◌∷◌, Bool, true, false, if◌then◌else◌}
use Rattle.teco_law_tables.proofs.Prelude.{Option, Some, None, Ok, IsTrue, AllByRecursion, option_map_or, Begin, onward}
use Rattle.teco_law_tables.proofs.Prelude.{Descend, IsBegin, AreClosed, IterationsEnd, end_of, IterationsAreOpen}
use Rattle.teco_law_tables.proofs.Prelude.{Library, AreLinked, Node, numbered, values_compare, values_of_constants}
use Rattle.teco_law_tables.proofs.Prelude.{Polynomial, value, and_both, Changes, Choice, body_start, begins, covers}
use Rattle.teco_law_tables.proofs.Prelude.{Facts, say_same, is_counted, begins_by_kind, begins_iteration, check_nodes}
use Rattle.teco_law_tables.proofs.Prelude.{TablesAreClosed, turns_at, Table, facts_at, value_of, iterations_at}
use Rattle.teco_law_tables.proofs.Prelude.{begins_of, held_at, turning, changes_in, number_within, same_number}
use Rattle.teco_law_turns.specs.Table.{IsClosedLoop}
use Rattle.teco_law_turns.specs.Nests.{NodesNest}
use Rattle.teco_poly.specs.Polynomial.{is_at_most}
use Rattle.teco_law_facts.proofs.Bodies.{room_is_sound}
use Rattle.teco_verifier.specs.facts.Bodies.{has_room, stands}
use Rattle.teco_verifier.specs.table.Printed.{turns_where}
use Rattle.teco_law_tables.specs.Turning.{begins_at, held_in, held_if}
use Rattle.teco_law_tables.proofs.Entering.{held_stays}
use Rattle.teco_law_runs.proofs.Lookup.{ends_there, innermost_by}
use Rattle.teco_law_tables.proofs.Reading.{Body, body_is}
use Rattle.teco_law_tables.proofs.Standing.{mark_at, begin_in, iterations_are, passed, next_at}

-- ---- what is held, by the facts that cover
pub held_covered : (facts edge : Facts) → IsTrue (covers facts edge) → IsTrue (is_at_most edge.held facts.held)
held_covered facts edge c =
    let p = and_both _ _ c in
    let q = and_both _ _ p.0 in
    let r = and_both _ _ q.0 in
    (and_both _ _ r.0).1

pub held_same : (facts others : Facts) (n : ℕ) → IsTrue (say_same facts others)
    → value facts.held n ≡ value others.held n
held_same facts others n s = search (and_both, values_compare, held_covered, arith)

module _ (nodes : List Node) (table : Table) (n : ℕ) where
  pub held_known : (k : ℕ) (facts : Facts) → facts_at table k ≡ Some facts
      → held_at nodes table n k ≡ value facts.held n
  held_known zero facts h = absurd (cc)
  held_known (suc k) facts h =
      ap (λ (o : Option Facts). option_map_or (held_in n) o (held_if (begins_at nodes k) (held_at nodes table n k))) h

  held_unknown : (k : ℕ) → facts_at table (suc k) ≡ None
      → held_at nodes table n (suc k) ≡ held_if (begins_at nodes k) (held_at nodes table n k)
  held_unknown k h =
      ap (λ (o : Option Facts). option_map_or (held_in n) o (held_if (begins_at nodes k) (held_at nodes table n k))) h

  held_beginning : (k : ℕ) → facts_at table (suc k) ≡ None → begins_at nodes k ≡ true
      → held_at nodes table n (suc k) ≡ held_at nodes table n k
  held_beginning k h b = held_unknown k h ∙ ap (λ b. held_if b (held_at nodes table n k)) b

  held_nowhere : (k : ℕ) → facts_at table (suc k) ≡ None → begins_at nodes k ≡ false → held_at nodes table n (suc k) ≡ 0
  held_nowhere k h b = held_unknown k h ∙ ap (λ b. held_if b (held_at nodes table n k)) b

  pub turns_known : (begin : ℕ) (facts start : Facts) → facts_at table begin ≡ Some facts
      → facts_at table (suc begin) ≡ Some start → (most : Polynomial) → turns_where (Some facts) (Some start) ≡ Ok most
      → value_of n (turns_at table begin) ≡ value most n
  turns_known begin facts start h s most t =
      ap (value_of n) (ap (λ (o : Option Facts). turns_where o (facts_at table (suc begin))) h
      ∙ (ap (turns_where (Some facts)) s ∙ t))

  turns_nowhere : (begin : ℕ) → facts_at table (suc begin) ≡ None → value_of n (turns_at table begin) ≡ 1
  turns_nowhere begin s = ap (value_of n) (ap (turns_where (facts_at table begin)) s) ∙ (values_of_constants n 1).0

-- ---- a fall is told where a turn begins alone
abbrev fall_where : Bool → Option ℤ
fall_where b = if b then Some (pos 0) else None

no_fall : (l o : ℕ) → o < l → (b : Bool) → (suc l == suc o) ≡ b → fall_where b ≡ None
no_fall l o lt false e = refl
no_fall l o lt true e = absurd (omega (arith, eqb-true (suc l) (suc o) e))

no_falls : (l m : ℕ) (ls : List ℕ) → m ≤ l → Descend m ls → AllByRecursion (λ o. fall_where (suc l == suc o) ≡ None) ls
no_falls l m [] le d = tt
no_falls l m (o ∷ ls) le d = (no_fall l o (omega (arith, d.0, le)) _ refl, no_falls l o ls (omega (arith, d.0, le)) d.1)

less_one : (a g : ℕ) → a ≡ 1 → (a - 1) * g ≡ 0
less_one a g e = let z : a - 1 ≡ 0 = omega arith in rw z (omega arith)

room_in : (choice : Choice) (changes : Changes) (counted : Bool) (most : Polynomial) (entering end : Facts)
    → IsTrue (stands choice changes counted most entering (Some end)) → IsTrue (has_room choice most entering end)
room_in choice changes counted most entering end s =
    let p = and_both _ _ s in
    let q = and_both _ _ p.1 in
    (and_both _ _ q.0).1

no_growth : (a b c : ℕ) → b ≡ 0 → a * (b - c) ≡ 0
no_growth a b c e = let z : b - c ≡ 0 = omega arith in rw z (omega arith)

as_often : (a b c d : ℕ) → a ≡ b → c ≡ d → (a - 1) * c ≡ (b - 1) * d
as_often a b c d e f = rw (e, f) refl

-- ---- one iteration
module _ (library : Library) (entry : ℕ) (nodes : List Node) (are : AreLinked library entry nodes)
    (open_at : IterationsAreOpen) (closed : AreClosed nodes) (table : Table) (n : ℕ)
    (passes : check_nodes nodes table ≡ Ok tt) where
  module _ (l : ℕ) (some : l < end_of nodes l) where
    begin : IsBegin nodes l
    begin = (closed.begins l some).0

    begins_there : begins_at nodes l ≡ true
    begins_there = ap (λ (o : Option Node). option_map_or begins_of o false) begin.at
        ∙ (ap begins_iteration begin.reads ∙ ap begins_by_kind begin.kind_is)

    -- an end that stands behind a < is that of its body
    end_alone : (m : ℕ) → end_of nodes l ≡ suc m → begins_at nodes m ≡ true → m ≡ l
    end_alone m e b =
        let there = ends_there nodes l some in
        let known = number_within nodes (end_of nodes l) there.0 there.1 in
        let its = innermost_by l there.0.element there.0.stand.iterations there.2 in
        let here : iterations_at nodes (suc m) ≡ l ∷ its.0 =
        ap (iterations_at nodes) (sym e) ∙ (iterations_are nodes (end_of nodes l) there.0 there.1 ∙ its.1) in
        let next = next_at library entry nodes are open_at closed table n m (omega (arith, known, e)) in
        let mark : mark_at nodes m ≡ Begin = begin_in (numbered nodes m) b in
        let both : m ∷ iterations_at nodes m ≡ l ∷ its.0 = ap (λ mark. onward mark m (iterations_at nodes m)) (sym mark)
        ∙ (sym next ∙ here) in
        cc

    before_end : (m : ℕ) × (end_of nodes l ≡ suc m)
    before_end = (end_of nodes l - 1, omega arith)

    -- a body that is not reached
    module _ (nowhere : facts_at table (suc l) ≡ None) where
      start_held : held_at nodes table n (suc l) ≡ held_at nodes table n l
      start_held = held_beginning nodes table n l nowhere begins_there

      room_nowhere : held_at nodes table n l + (value_of n (turns_at table l) - 1) *
          (held_at nodes table n (end_of nodes l) - held_at nodes table n (suc l)) ≤ held_at nodes table n (suc l)
      room_nowhere = omega (
        arith,
        start_held,
        less_one (value_of n (turns_at table l))
            (held_at nodes table n (end_of nodes l) - held_at nodes table n (suc l))
            (turns_nowhere nodes table n l nowhere),
      )

    -- a body that is reached
    module _ (start : Facts) (there : facts_at table (suc l) ≡ Some start) where
      body : Body nodes table l begin.node start
      body = body_is nodes table l begin.node start there begin.element begin.reads begin.kind_is passes begin.at

      held_l : held_at nodes table n l ≡ value body.entering.held n
      held_l = held_known nodes table n l body.facts body.known
          ∙ ap (λ p. value p n)
          (sym (held_stays nodes begin.node begin.element body.facts body.entering body.edges begin.reads begin.kind_is
          body.leads body.on))

      held_start : held_at nodes table n (suc l) ≡ value body.choice.held n
      held_start = held_known nodes table n (suc l) start there
          ∙ held_same start (body_start body.choice (changes_in nodes l) body.entering) n body.same

      turns_there : value_of n (turns_at table l) ≡ value body.most n
      turns_there = turns_known nodes table n l body.facts start body.known there body.most body.turns_are

      begins_with : IsTrue (begins body.choice body.entering) → held_at nodes table n l ≤ held_at nodes table n (suc l)
      begins_with b = omega (
        arith,
        held_l,
        held_start,
        values_compare body.entering.held body.choice.held n (and_both _ _ b).0,
      )

      -- where its > is not, nothing is held there
      held_end : facts_at table (end_of nodes l) ≡ None → held_at nodes table n (end_of nodes l) ≡ 0
      held_end ended = by_begin (begins_at nodes before_end.0) refl
        where
          ended_there : facts_at table (suc before_end.0) ≡ None
          ended_there = ap (facts_at table) (sym before_end.1) ∙ ended

          by_begin : (b : Bool) → begins_at nodes before_end.0 ≡ b → held_at nodes table n (end_of nodes l) ≡ 0
          by_begin false b = ap (held_at nodes table n) before_end.1
              ∙ held_nowhere nodes table n before_end.0 ended_there b
          by_begin true b = let z : Some start ≡ None =
              sym there ∙ (ap (λ m. facts_at table (suc m)) (sym (end_alone before_end.0 before_end.1 b)) ∙ ended_there)
              in absurd (cc)

      room_by : (o : Option Facts) → facts_at table (end_of nodes l) ≡ o
          → IsTrue (stands body.choice (changes_in nodes l) (is_counted body.entering.iterations) body.most
          body.entering o) →
          held_at nodes table n l + (value_of n (turns_at table l) - 1) *
          (held_at nodes table n (end_of nodes l) - held_at nodes table n (suc l)) ≤ held_at nodes table n (suc l)
      room_by None ended b = omega (
        arith,
        begins_with b,
        no_growth (value_of n (turns_at table l) - 1) (held_at nodes table n (end_of nodes l))
            (held_at nodes table n (suc l)) (held_end ended),
      )
      room_by (Some end) ended s =
          let room = room_is_sound n body.choice body.most body.entering end
          (room_in body.choice (changes_in nodes l) (is_counted body.entering.iterations) body.most body.entering
          end s) in
          let grown : held_at nodes table n (end_of nodes l) - held_at nodes table n (suc l) ≡ room.growth =
          omega (arith, held_known nodes table n (end_of nodes l) end ended, held_start, room.grows) in
          omega (
            arith,
            held_l,
            held_start,
            room.room,
            as_often (value_of n (turns_at table l)) (value body.most n)
                (held_at nodes table n (end_of nodes l) - held_at nodes table n (suc l)) room.growth turns_there grown,
          )

      room_there : held_at nodes table n l + (value_of n (turns_at table l) - 1) *
          (held_at nodes table n (end_of nodes l) - held_at nodes table n (suc l)) ≤ held_at nodes table n (suc l)
      room_there = room_by _ refl body.stands_there

    room_at : (o : Option Facts) → facts_at table (suc l) ≡ o
        → held_at nodes table n l + (value_of n (turns_at table l) - 1) *
        (held_at nodes table n (end_of nodes l) - held_at nodes table n (suc l)) ≤ held_at nodes table n (suc l)
    room_at None nowhere = room_nowhere nowhere
    room_at (Some start) there = room_there start there

falls_alone : (library : Library) (entry : ℕ) (nodes : List Node) → AreClosed nodes → (l : ℕ) → l < end_of nodes l
    → AllByRecursion (λ o. fall_where (suc l == suc o) ≡ None) (iterations_at nodes l)
falls_alone library entry nodes closed l some = search (iterations_are, no_falls, arith)

tables_close : NodesNest → (library : Library) (entry : ℕ) (nodes : List Node) → AreLinked library entry nodes
    → IterationsAreOpen → AreClosed nodes → (table : Table) (n : ℕ) → check_nodes nodes table ≡ Ok tt → (l : ℕ)
    → l < end_of nodes l → IsClosedLoop (turning nodes table n) l
tables_close nest library entry nodes are open_at closed table n passes l some = record {
  nested = nest (turning nodes table n) (λ k. mark_at nodes k) (passed library entry nodes are open_at closed table n) l
      some;
  room = room_at library entry nodes are open_at closed table n passes l some _ refl;
  grows = omega arith;
  fresh = ap fall_where (same_number (suc l));
  outside = inr (record { ahead = omega arith; falls = falls_alone library entry nodes closed l some });
}

pub tables_are_closed : IterationsAreOpen → IterationsEnd → NodesNest → TablesAreClosed
tables_are_closed open_at ends nest library entry nodes table n are passes = search tables_close
