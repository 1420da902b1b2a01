-- Elements of one step come to no code, and go along their edges.
use Rattle.teco_law_facts.proofs.Prelude.{◌≡◌, ℕ, zero, suc, arith, refl, subst, ℤ, List, [], ◌∷◌, drop, Bool, true}
use Rattle.teco_law_facts.proofs.Prelude.{false, cond, Option, Some, None, option_map, IfSome, MatchOption, ok_or}
use Rattle.teco_law_facts.proofs.Prelude.{Result, Ok, Err, IfOk, ⊤, Code, Whole, holds, Element, Turn, After, skip_of}
use Rattle.teco_law_facts.proofs.Prelude.{Kept, World, Frame, State, Loop, Flow, Test, needed_value, Polynomial, ok_any}
use Rattle.teco_law_facts.proofs.Prelude.{◌>>=◌, Run, run_behind, run_in_turn, Position, Answer, Facts, Iteration}
use Rattle.teco_law_facts.proofs.Prelude.{at_position, without_arguments, Edges, none_pending, Succeeds, Leads, Arrives}
use Rattle.teco_law_facts.proofs.Prelude.{ArrivesOn, IsReached, number_needed, LeavingOr, EntersOr, EndsTurn, unread_of}
use Rattle.teco_law_facts.proofs.Prelude.{ComesTo, Comes, LeadsAhead, IsInside, FlowStands, BeginsAt, GoesBehind}
use Rattle.teco_law_facts.proofs.Prelude.{FlowGoes, Placed, transfer, Numbers, way, RefusalReason, Value}
use Rattle.std.specs.Prelude.{is_some}
use Rattle.teco_base.specs.declared.code.Code.TheVariants as code
use Rattle.teco_model.specs.Arguments as model
use Rattle.teco_model.specs.Flow as flows
use Rattle.teco_model.specs.Going.{with_kept}
use Rattle.teco_model.specs.declared.kind.Flow.TheVariants as flow
use Rattle.teco_model.specs.declared.kind.Goal.{Goal}
use Rattle.teco_model.specs.declared.kind.Goal.TheVariants as goal
use Rattle.teco_model.specs.declared.kind.Kind.TheVariants as kind
use Rattle.teco_law_facts.proofs.Flowing.{tests_are_sound, leaves_are_sound, iterations_are_sound}
use Rattle.teco_law_facts.proofs.Flowing.{turn_ends_are_sound, tags_are_sound, others_are_sound}
use Rattle.teco_law_facts.proofs.Steps.{by_kind}
use Rattle.teco_verifier.specs.facts.Arguments as taking
use Rattle.teco_verifier.specs.facts.Flows as edge
use Rattle.teco_law_facts.specs.SoundSteps.{ReachedIf, enters}
use Rattle.teco_law_facts.specs.SoundSteps.{is_last, run_begun}
use Rattle.teco_verifier.specs.facts.Transfer as transfers

-- ---- steps
pub leads_at : {X Y : Type 0} (L : X → Type 0) (Q : X → Y → Type 0) (r : Result X RefusalReason) (c : Result Y Code)
    (x : X)
    → r ≡ Ok x → L x → Leads L Q r c → Succeeds (Q x) c
leads_at L Q r c x e l h = let h : Leads L Q (Ok x) c = subst (λ r. Leads L Q r c) e h in h l

pub ok_at : {X : Type 0} (P : X → Type 0) (r : Result X RefusalReason) (x : X) → r ≡ Ok x → IfOk r P → P x
ok_at P r x e h = subst (λ r. IfOk r P) e h

pub then_so : {X Y : Type 0} (P : X → Type 0) (Q : Y → Type 0) (r : Result X Code) (f : X → Result Y Code)
    → Succeeds P r → ((x : X) → r ≡ Ok x → P x → Succeeds Q (f x)) → Succeeds Q (r >>= f)
then_so P Q (Ok x) f h k = k x refl h
then_so P Q (Err c) f h k = absurd h

pub so_far : {X : Type 0} (P Q : X → Type 0) (r : Result X Code) → ((x : X) → P x → Q x) → Succeeds P r → Succeeds Q r
so_far P Q (Ok x) k h = k x h
so_far P Q (Err c) k h = h

pub of_one : {X : Type 0} (P : X → Type 0) (Q : Type 0) (r : Result X Code) → Succeeds P r → ((x : X) → P x → Q) → Q
of_one P Q (Ok x) h k = k x h
of_one P Q (Err c) h k = absurd h

in_turn : {X Y Z : Type 0} (Q : Z → Type 0) (r : Result X Code) (f : X → Result Y Code) (g : Y → Result Z Code)
    → Succeeds Q ((r >>= f) >>= g) → Succeeds Q (r >>= λ x. f x >>= g)
in_turn Q (Ok x) f g h = h
in_turn Q (Err c) f g h = h

-- ---- behind an element
pub arrives_comes : (run : Run) (held : Polynomial) (old : World) (kept : Kept) (arguments : model.Arguments)
    (o : Option Facts) → MatchOption o ⊥
    (λ next. Arrives run held (unread_of old) old.kept next (record { kept = kept; arguments = arguments }))
    → MatchOption o ⊥ (λ next. ComesTo run held old next arguments (record old { kept = kept }))
arrives_comes run held old kept arguments None h = h
arrives_comes run held old kept arguments (Some next) h =
    record { described = h.described; grown = omega (arith, h.grown) }

pub on_comes : (run : Run) (held : Polynomial) (old : World) (kept : Kept) (arguments : model.Arguments) (edges : Edges)
    → ArrivesOn run held (unread_of old) old.kept edges (record { kept = kept; arguments = arguments })
    → Comes run held old arguments edges (record old { kept = kept })
on_comes run held old kept arguments edges h = arrives_comes run held old kept arguments edges.on h

pub goes_behind : (run : Run) (held : Polynomial) (edges : Edges) (e : Element) (s : State) → s.left ≡ None
    → (r : Result After Code) → Succeeds (ArrivesOn run held (unread_of s.world) s.world.kept edges) r
    → Succeeds (λ (done : After). GoesBehind run held edges e s
    (record s {
      world = with_kept done.kept s.world;
      arguments = done.arguments;
      frames = record s.frames { running = record s.frames.running { place = e.next } };
    })) r
goes_behind run held edges e s l (Err c) h = h
goes_behind run held edges e s l (Ok done) h =
    record { comes = on_comes run held s.world done.kept done.arguments edges h; frames = refl; done = l }

-- ---- what flow elements hold
abbrev KeepsHeld : Facts → Edges → Type 0
KeepsHeld facts edges = IfSome edges.on (λ next. next.held ≡ facts.held)
    × IfSome edges.away (λ next. next.held ≡ facts.held)

way_held : (o : Option Position) (facts : Facts)
    → IfSome (option_map (λ p. at_position p facts) o) (λ next. next.held ≡ facts.held)
way_held None facts = tt
way_held (Some p) facts = refl

left_held : (o : Option Position) (facts : Facts)
    → IfSome (option_map (edge.leaving 1) (option_map (λ p. at_position p facts) o)) (λ next. next.held ≡ facts.held)
left_held None facts = tt
left_held (Some p) facts = refl

if_held : (b : Bool) (facts next : Facts) → next.held ≡ facts.held
    → IfSome (cond b (Some next) None) (λ next. next.held ≡ facts.held)
if_held true facts next e = e
if_held false facts next e = tt

entered_held : (o : Option Value) (facts : Facts) → KeepsHeld facts (edge.iteration o facts)
entered_held None facts = (refl, tt)
entered_held (Some n) facts = (if_held _ facts (edge.entering true facts) refl, if_held _ facts facts refl)

ended_held : (iterations : List Iteration) (facts : Facts) → IfOk (edge.turn_end iterations facts) (KeepsHeld facts)
ended_held [] facts = tt
ended_held (i ∷ outer) facts = (if_held i.counted facts (edge.leaving 1 facts) refl, refl)

left_or_held : (a b : Numbers) (answer : Option Answer) (facts : Facts) (r : Result Value RefusalReason)
    → IfOk (r >>= λ n. Ok (record {
      on = way a answer n (edge.facts_taken facts);
      away = option_map (edge.leaving 1) (way b answer n (edge.facts_taken facts));
    })) (KeepsHeld facts)
left_or_held a b answer facts (Ok n) = (way_held _ (edge.facts_taken facts), left_held _ (edge.facts_taken facts))
left_or_held a b answer facts (Err why) = tt

tested_held : (a b : Numbers) (answer : Option Answer) (facts : Facts) (r : Result Value RefusalReason)
    → IfOk (r >>= λ n. Ok (record {
      on = way a answer n (edge.facts_taken facts);
      away = way b answer n (edge.facts_taken facts);
    })) (KeepsHeld facts)
tested_held a b answer facts (Ok n) = (way_held _ (edge.facts_taken facts), way_held _ (edge.facts_taken facts))
tested_held a b answer facts (Err why) = tt

gone_held : (leaves : ℕ) (facts : Facts) (r : Result (Unit {0}) RefusalReason)
    → IfOk (r >>= λ alone. Ok (edge.goes_away (edge.leaving leaves facts))) (KeepsHeld facts)
gone_held leaves facts (Ok u) = (tt, refl)
gone_held leaves facts (Err why) = tt

flow_held : (f : Flow) (colons leaves : ℕ) (answer : Option Answer) (facts : Facts)
    → IfOk (edge.flow_edges f colons leaves answer facts) (KeepsHeld facts)
flow_held flow.Iterate colons leaves answer facts =
    ok_any (KeepsHeld facts) (taking.arguments_of facts.arguments.level) _
    (λ taken. ok_any (KeepsHeld facts) (none_pending (taking.levels_after_taking facts.arguments)) _
    (λ alone. ok_any (KeepsHeld facts) (edge.turns_of taken.value facts) _
    (λ most. entered_held taken.value (without_arguments facts))))
flow_held flow.EndTurn colons leaves answer facts = ended_held facts.iterations facts
flow_held flow.Leave colons leaves answer facts = left_or_held _ _ answer facts _
flow_held (flow.Test test) colons leaves answer facts = tested_held _ _ answer facts _
flow_held flow.Otherwise colons leaves answer facts = (tt, refl)
flow_held flow.EndTest colons leaves answer facts = (refl, tt)
flow_held flow.GoTo colons leaves answer facts =
    ok_any (KeepsHeld facts) (taking.arguments_of facts.arguments.level) _
    (λ taken. gone_held leaves facts (edge.without_value taken.value))
flow_held flow.Comment colons leaves answer facts = (refl, tt)
flow_held (flow.GoAhead g) colons leaves answer facts = (tt, refl)

pub held_kept : (x : Placed) (facts : Facts) (f : Flow) → x.element.kind ≡ kind.Flow f
    → IfOk (transfer x facts) (KeepsHeld facts)
held_kept x facts f e =
    by_kind x facts _ (λ r. IfOk r (KeepsHeld facts)) e
    (flow_held f x.element.colons x.leaves (transfers.answer_for (kind.Flow f) facts)
    (transfers.without_answer facts))

-- ---- flow
module _ (run : Run) (facts : Facts) (x : Placed) (edges : Edges) (s : State) (h : BeginsAt run facts x s)
    (t : transfer x facts ≡ Ok edges) where
  abbrev u : ℕ
  u = unread_of s.world

  abbrev kept : Kept
  kept = s.world.kept

  reached : (other : Run) (arguments : model.Arguments) (o : Option Facts) → other.n ≡ run.n
      → IfSome o (λ next. next.held ≡ facts.held) → IsReached other o u kept arguments
      → MatchOption o ⊥ (λ next. ComesTo other facts.held s.world next arguments s.world)
  reached other arguments None n e i = i
  reached other arguments (Some next) n e i = record { described = i; grown = rw e (omega arith) }

  abbrev frame : Frame
  frame = s.frames.running

  jumped : (Q : Turn → Type 0) (c : Code) (arguments : model.Arguments) → LeadsAhead x.element frame
      → ((place : ℕ)
      → Q (flows.turn_to arguments place (drop (skip_of frame.text (Whole x.element)).leaves frame.loops) frame))
      → Succeeds Q (flows.jump c x.element arguments frame)
  jumped Q c arguments (place, e) h = along _ e where
    along : (o : Option ℕ) → o ≡ Some place
        → Succeeds Q (ok_or o c >>= λ place.
        Ok (flows.turn_to arguments place (drop (skip_of frame.text (Whole x.element)).leaves frame.loops) frame))
    along None e = absurd (cc)
    along (Some p) e = h p

  module _ (f : Flow) (e : x.element.kind ≡ kind.Flow f) where
    held : KeepsHeld facts edges
    held = ok_at (KeepsHeld facts) (transfer x facts) edges t (held_kept x facts f e)

    on_edge : (other : Run) (arguments : model.Arguments) → other.n ≡ run.n → IsReached other edges.on u kept arguments
        → MatchOption edges.on ⊥ (λ next. ComesTo other facts.held s.world next arguments s.world)
    on_edge other arguments n i = reached other arguments edges.on n held.0 i

    away_edge : (other : Run) (arguments : model.Arguments) → other.n ≡ run.n
        → IsReached other edges.away u kept arguments
        → MatchOption edges.away ⊥ (λ next. ComesTo other facts.held s.world next arguments s.world)
    away_edge other arguments n i = reached other arguments edges.away n held.1 i

    abbrev Goes : Turn → Type 0
    Goes turn = FlowGoes f run facts.held x edges s turn

  -- tests
  module _ (test : Test) (e : x.element.kind ≡ kind.Flow (flow.Test test)) (ahead : LeadsAhead x.element frame) where
    tested : (b : Bool) → IsReached run (cond b edges.on edges.away) u kept (model.levels_after_taking s.arguments)
        → Succeeds (ReachedIf b run run facts.held s edges.on edges.away)
        (flows.conditional b x.element (model.levels_after_taking s.arguments) frame)
    tested true i = on_edge (flow.Test test) e run _ refl i
    tested false i = jumped (ReachedIf false run run facts.held s edges.on edges.away) code.Utc _ ahead
        (λ place. away_edge (flow.Test test) e run _ refl i)

    pub test_goes : Succeeds (FlowGoes (flow.Test test) run facts.held x edges s)
        (flows.turn_of (flow.Test test) x.element s.arguments frame)
    test_goes =
        let told = leads_at (λ edges. ⊤) _ (transfer x facts) (number_needed s.arguments) edges t tt
        (tests_are_sound run facts u kept s.arguments x test h.whole.world.kept h.described e) in
        in_turn (FlowGoes (flow.Test test) run facts.held x edges s) (model.arguments_of s.arguments.level)
        (λ taken. needed_value taken.value) _
        (then_so _ (FlowGoes (flow.Test test) run facts.held x edges s) (number_needed s.arguments)
        (λ v. flows.conditional (holds test v) x.element (model.levels_after_taking s.arguments) frame) told
        (λ v w i.
        so_far _ (FlowGoes (flow.Test test) run facts.held x edges s) _ (λ turn r. (v, w, r))
        (tested (holds test v) i)))

  -- ; and :;
  module _ (e : x.element.kind ≡ kind.Flow flow.Leave) (inside : IsInside facts frame)
      (ahead : LeadsAhead x.element frame) where
    left : (b : Bool) → LeavingOr run u kept s.arguments b edges
        → Succeeds (ReachedIf b (run_behind 1 run) run facts.held s edges.away edges.on)
        (flows.leaving_where b x.element (model.levels_after_taking s.arguments) frame)
    left true i = jumped (ReachedIf true (run_behind 1 run) run facts.held s edges.away edges.on) code.Utc
        model.no_arguments ahead (λ place. away_edge flow.Leave e (run_behind 1 run) model.no_arguments refl i)
    left false i = on_edge flow.Leave e run (model.levels_after_taking s.arguments) refl i

    left_in : (loops : List Loop) → loops ≡ inside.loop ∷ inside.outer
        → Succeeds (FlowGoes flow.Leave run facts.held x edges s) (flows.leaving x.element loops s.arguments frame)
    left_in [] l = absurd (cc)
    left_in (loop ∷ outer) l =
        let told = leads_at (λ edges. ⊤) _ (transfer x facts) (number_needed s.arguments) edges t tt
        (leaves_are_sound run facts u kept s.arguments x h.whole.world.kept h.described e) in
        in_turn (FlowGoes flow.Leave run facts.held x edges s) (model.arguments_of s.arguments.level)
        (λ taken. needed_value taken.value) _
        (then_so _ (FlowGoes flow.Leave run facts.held x edges s) (number_needed s.arguments)
        (λ v. flows.leaving_where (flows.leaves x.element.colons v) x.element
        (model.levels_after_taking s.arguments) frame) told (λ v w i.
        so_far _ (FlowGoes flow.Leave run facts.held x edges s) _ (λ turn r. (v, w, r))
        (left (flows.leaves x.element.colons v) i)))

    pub leave_goes : Succeeds (FlowGoes flow.Leave run facts.held x edges s)
        (flows.turn_of flow.Leave x.element s.arguments frame)
    leave_goes = left_in frame.loops inside.loops

  -- <
  module _ (e : x.element.kind ≡ kind.Flow flow.Iterate) (ahead : LeadsAhead x.element frame) where
    counted : (n : ℤ) (o : Option ℕ)
        → MatchOption o (IsReached run edges.away u kept (model.levels_after_taking s.arguments))
        (λ more. IsReached (run_in_turn u kept run) edges.on u kept (model.levels_after_taking s.arguments))
        → Succeeds (ReachedIf (is_some o) (run_begun s run) run facts.held s edges.on edges.away)
        (flows.counted_iteration x.element o (model.levels_after_taking s.arguments) frame)
    counted n None i = jumped (ReachedIf false (run_begun s run) run facts.held s edges.on edges.away) code.Utc
        (model.levels_after_taking s.arguments) ahead
        (λ place. away_edge flow.Iterate e run (model.levels_after_taking s.arguments) refl i)
    counted n (Some more) i = on_edge flow.Iterate e (run_in_turn u kept run) (model.levels_after_taking s.arguments)
        refl i

    iterated : (o : Option ℤ) → EntersOr run u kept s.arguments o edges
        → Succeeds (ReachedIf (enters o) (run_begun s run) run facts.held s edges.on edges.away)
        (flows.iteration x.element o (model.levels_after_taking s.arguments) frame)
    iterated None i = on_edge flow.Iterate e (run_in_turn u kept run) (model.levels_after_taking s.arguments) refl i
    iterated (Some n) i = counted n (flows.later_turns n) i

    pub iterate_goes : Succeeds (FlowGoes flow.Iterate run facts.held x edges s)
        (flows.turn_of flow.Iterate x.element s.arguments frame)
    iterate_goes =
        let told = leads_at (λ edges. ⊤) _ (transfer x facts) (model.arguments_of s.arguments.level) edges t tt
        (iterations_are_sound run facts u kept s.arguments x h.whole.world.kept h.described e) in
        then_so _ (FlowGoes flow.Iterate run facts.held x edges s) (model.arguments_of s.arguments.level)
        (λ taken. flows.iteration x.element taken.value (model.levels_after_taking s.arguments) frame) told
        (λ taken w i.
        so_far _ (FlowGoes flow.Iterate run facts.held x edges s) _ (λ turn r. (taken, w, r)) (iterated taken.value i))

  -- >
  module _ (e : x.element.kind ≡ kind.Flow flow.EndTurn) (inside : IsInside facts frame) where
    ends : EndsTurn run u kept inside.iteration.counted edges
    ends = ok_at (EndsTurn run u kept inside.iteration.counted) (transfer x facts) edges t
        (turn_ends_are_sound run facts u kept s.arguments x inside.iteration inside.others h.whole.world.kept
        h.described e inside.iterations)

    next_goes : (loop : Loop) (outer : List Loop) (turns : Option ℕ)
        → ((n : ℕ) → turns ≡ Some n → inside.iteration.counted ≡ true)
        → ReachedIf (is_last turns) (run_behind 1 run) (run_begun s (run_behind 1 run)) facts.held s edges.on edges.away
        (elim turns as (λ x. Turn) [
          | None ↦ flows.turn_to model.no_arguments loop.start (loop ∷ outer) frame
          | Some turns ↦ elim turns as (λ x. Turn) [
            | zero ↦ flows.turn_to model.no_arguments x.element.next outer frame
            | suc n ↦ flows.turn_to model.no_arguments loop.start (record loop { turns = Some n } ∷ outer) frame
          ]
        ])
    next_goes loop outer None c = away_edge flow.EndTurn e (run_begun s (run_behind 1 run)) model.no_arguments refl
        ends.back
    next_goes loop outer (Some zero) c =
        on_edge flow.EndTurn e (run_behind 1 run) model.no_arguments refl (ends.on (c zero refl))
    next_goes loop outer (Some (suc n)) c =
        away_edge flow.EndTurn e (run_begun s (run_behind 1 run)) model.no_arguments refl ends.back

    turn_ended : (loops : List Loop) → frame.loops ≡ loops → loops ≡ inside.loop ∷ inside.outer
        → Succeeds (FlowGoes flow.EndTurn run facts.held x edges s) (flows.turn_end x.element loops frame)
    turn_ended [] w l = absurd (cc)
    turn_ended (loop ∷ outer) w l =
        let same : loop ≡ inside.loop = cc in (
          loop,
          outer,
          w,
          next_goes loop outer loop.turns
              (λ n c. inside.counted n (subst (λ (p : Loop). p.turns ≡ Some n) same c)),
        )

    pub turn_end_goes : Succeeds (FlowGoes flow.EndTurn run facts.held x edges s)
        (flows.turn_of flow.EndTurn x.element s.arguments frame)
    turn_end_goes = turn_ended frame.loops refl inside.loops

  -- |, ', ! and O
  pub otherwise_goes : x.element.kind ≡ kind.Flow flow.Otherwise → LeadsAhead x.element frame
      → Succeeds (FlowGoes flow.Otherwise run facts.held x edges s)
      (flows.turn_of flow.Otherwise x.element s.arguments frame)
  otherwise_goes e ahead = jumped (FlowGoes flow.Otherwise run facts.held x edges s) code.Utc s.arguments ahead
      (λ place. away_edge flow.Otherwise e run s.arguments refl
      (ok_at (λ edges. IsReached run edges.away u kept s.arguments) (transfer x facts) edges t
      ((others_are_sound run facts u kept s.arguments x h.described).otherwise e)))

  goes_ahead : (g : Goal) → x.element.kind ≡ kind.Flow (flow.GoAhead g) → LeadsAhead x.element frame →
      Succeeds (FlowGoes (flow.GoAhead g) run facts.held x edges s) (flows.jump code.Utc x.element s.arguments frame)
  goes_ahead g e ahead = jumped (FlowGoes (flow.GoAhead g) run facts.held x edges s) code.Utc s.arguments ahead
      (λ place. away_edge (flow.GoAhead g) e run s.arguments refl
      (ok_at (λ edges. IsReached run edges.away u kept s.arguments) (transfer x facts) edges t
      ((others_are_sound run facts u kept s.arguments x h.described).ahead g e)))

  -- F> stands in an iteration
  module _ (e : x.element.kind ≡ kind.Flow (flow.GoAhead goal.EndTurn)) (inside : IsInside facts frame)
      (ahead : LeadsAhead x.element frame) where
    to_turn_end : (loops : List Loop) → loops ≡ inside.loop ∷ inside.outer
        → Succeeds (FlowGoes (flow.GoAhead goal.EndTurn) run facts.held x edges s)
        (flows.to_turn_end x.element loops s.arguments frame)
    to_turn_end [] l = absurd (cc)
    to_turn_end (loop ∷ outer) l = goes_ahead goal.EndTurn e ahead

  ahead_goes : (g : Goal) → x.element.kind ≡ kind.Flow (flow.GoAhead g) → FlowStands (flow.GoAhead g) facts x frame →
      Succeeds (FlowGoes (flow.GoAhead g) run facts.held x edges s)
      (flows.turn_of (flow.GoAhead g) x.element s.arguments frame)
  ahead_goes goal.EndTurn e k = to_turn_end e k.0 k.1 frame.loops k.0.loops
  ahead_goes goal.EndTest e k = goes_ahead goal.EndTest e k
  ahead_goes goal.Otherwise e k = goes_ahead goal.Otherwise e k

  pub test_end_goes : x.element.kind ≡ kind.Flow flow.EndTest
      → Succeeds (FlowGoes flow.EndTest run facts.held x edges s)
      (flows.turn_of flow.EndTest x.element s.arguments frame)
  test_end_goes e = on_edge flow.EndTest e run s.arguments refl
      (ok_at (λ edges. IsReached run edges.on u kept s.arguments) (transfer x facts) edges t
      ((others_are_sound run facts u kept s.arguments x h.described).end e))

  pub comment_goes : x.element.kind ≡ kind.Flow flow.Comment
      → Succeeds (FlowGoes flow.Comment run facts.held x edges s)
      (flows.turn_of flow.Comment x.element s.arguments frame)
  comment_goes e = on_edge flow.Comment e run s.arguments refl
      (ok_at (λ edges. IsReached run edges.on u kept s.arguments) (transfer x facts) edges t
      ((others_are_sound run facts u kept s.arguments x h.described).comment e))

  pub tag_goes : x.element.kind ≡ kind.Flow flow.GoTo → LeadsAhead x.element frame
      → Succeeds (FlowGoes flow.GoTo run facts.held x edges s) (flows.turn_of flow.GoTo x.element s.arguments frame)
  tag_goes e ahead =
      let told = leads_at (λ edges. ⊤) _ (transfer x facts) (model.arguments_of s.arguments.level) edges t tt
      (tags_are_sound run facts u kept s.arguments x h.whole.world.kept h.described e) in
      then_so _ (FlowGoes flow.GoTo run facts.held x edges s) (model.arguments_of s.arguments.level)
      (λ taken. flows.jump code.Tag x.element model.no_arguments frame >>= λ turn.
      flows.without_value taken.value turn) told (λ taken w i.
      rw i.0 (without (jumped (FlowGoes flow.GoTo run facts.held x edges s) code.Tag model.no_arguments ahead
      (λ place. away_edge flow.GoTo e (run_behind x.leaves run) model.no_arguments refl i.1)))) where
        without : Succeeds (FlowGoes flow.GoTo run facts.held x edges s)
            (flows.jump code.Tag x.element model.no_arguments frame)
            → Succeeds (FlowGoes flow.GoTo run facts.held x edges s)
            (flows.jump code.Tag x.element model.no_arguments frame >>= λ turn. Ok turn)
        without j = then_so (FlowGoes flow.GoTo run facts.held x edges s) (FlowGoes flow.GoTo run facts.held x edges s)
            _ _ j (λ turn w i. i)

  pub flow_goes : (f : Flow) → x.element.kind ≡ kind.Flow f → FlowStands f facts x frame
      → Succeeds (FlowGoes f run facts.held x edges s) (flows.turn_of f x.element s.arguments frame)
  flow_goes flow.Iterate e k = iterate_goes e k
  flow_goes flow.EndTurn e k = turn_end_goes e k
  flow_goes flow.Leave e k = leave_goes e k.0 k.1
  flow_goes (flow.Test test) e k = test_goes test e k
  flow_goes flow.Otherwise e k = otherwise_goes e k
  flow_goes flow.EndTest e k = test_end_goes e
  flow_goes flow.GoTo e k = tag_goes e k
  flow_goes flow.Comment e k = comment_goes e
  flow_goes (flow.GoAhead g) e k = ahead_goes g e k
