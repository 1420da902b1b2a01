-- What a flow element did, from what it left.
use Rattle.teco_law_runs.proofs.Prelude.{◌≡◌, ℕ, ℤ, zero, suc, List, [], ◌∷◌, drop, Bool, true, false, Option}
use Rattle.teco_law_runs.proofs.Prelude.{Some, None, Ok, refl, sym, ap, ◌∙◌, Code, Loop, Kind, Flow, Goal, Whole}
use Rattle.teco_law_runs.proofs.Prelude.{readings, Arguments, no_arguments, arguments_of, levels_after_taking}
use Rattle.teco_law_runs.proofs.Prelude.{Element, Turn, turn_of, jump, skip_of, Frame, Jumps, Went, ok, bound}
use Rattle.teco_law_runs.proofs.Prelude.{some_of}
use Rattle.teco_base.specs.declared.code.Code.TheVariants as code
use Rattle.teco_model.specs.declared.kind.Kind.TheVariants as kind
use Rattle.teco_model.specs.declared.kind.Flow.TheVariants as flow
use Rattle.teco_model.specs.declared.kind.Goal.TheVariants as goal
use Rattle.teco_model.specs.declared.kind.Test.{Test}
use Rattle.teco_model.specs.Ahead.{Reading}
use Rattle.teco_model.specs.Condition.{holds}
use Rattle.teco_model.specs.Effect.{needed_value}
use Rattle.teco_model.specs.Flow.{turn_to, iteration, counted_iteration, later_turns, turn_end}
use Rattle.teco_model.specs.Flow.{leaves, leaving, leaving_where, conditional, to_turn_end, going_ahead}
use Rattle.teco_model.specs.Flow.{without_value}
use Rattle.teco_model.specs.Skip.{route_of, skip_on}
use Rattle.teco_law_runs.specs.Turns.{Took}

-- some way of an element was gone
pub record Goes (f : Flow) (e : Element) (a : Arguments) (frame : Frame) (turn : Turn) : Type 0 where
  pub way : ℕ
  pub went : Went f way e a frame turn

-- how many iterations an element of a kind leaves where it jumps
pub leaves_by_kind : (k : Kind) (e : Element) (text : List ℕ) → e.kind ≡ k
    → (skip_of text (Whole e)).leaves ≡ (skip_on (route_of k) e.text (readings text e.next)).leaves
leaves_by_kind k e text h = ap (λ k. (skip_on (route_of k) e.text (readings text e.next)).leaves) h

-- a jump that was made
pub jumped : (c : Code) (n : ℕ) (e : Element) (a : Arguments) (frame : Frame) (turn : Turn)
    → (skip_of frame.text (Whole e)).leaves ≡ n → jump c e a frame ≡ Ok turn → Jumps n e a frame turn
jumped c n e a frame turn l h =
    let to = bound _ _ turn h in
    record {
      place = to.before;
      leads = some_of _ c to.before to.was;
      leaving = l;
      gone = sym (ok _ turn to.gives) ∙ ap (λ n. turn_to a to.before (drop n frame.loops) frame) l;
    }

needed : (value : Option ℤ) (n : ℤ) → needed_value value ≡ Ok n → value ≡ Some n
needed value n h = some_of value code.Arg n h

counted : (n : ℤ) (turns : Option ℕ) (e : Element) (a : Arguments) (frame : Frame) (turn : Turn)
    → e.kind ≡ kind.Flow flow.Iterate → Took a (Some n) → later_turns n ≡ turns
    → counted_iteration e turns (levels_after_taking a) frame ≡ Ok turn → Goes flow.Iterate e a frame turn
counted n None e a frame turn k took l h =
    record {
      way = 1;
      went = record {
        n = n;
        took = took;
        none = l;
        jumps = jumped code.Utc 0 e (levels_after_taking a) frame turn
            (leaves_by_kind (kind.Flow flow.Iterate) e frame.text k) h;
      };
    }
counted n (Some more) e a frame turn k took l h =
    record {
      way = 0;
      went = record {
        value = Some n;
        turns = Some more;
        took = took;
        counts = (more, refl, l);
        gone = sym (ok _ turn h);
      };
    }

iterated : (value : Option ℤ) (e : Element) (a : Arguments) (frame : Frame) (turn : Turn)
    → e.kind ≡ kind.Flow flow.Iterate → Took a value → iteration e value (levels_after_taking a) frame ≡ Ok turn
    → Goes flow.Iterate e a frame turn
iterated None e a frame turn k took h =
    record {
      way = 0;
      went = record {
        value = None;
        turns = None;
        took = took;
        counts = refl;
        gone = sym (ok _ turn h);
      };
    }
iterated (Some n) e a frame turn k took h = counted n (later_turns n) e a frame turn k took refl h

turned : (turns : Option ℕ) (loop : Loop) (outer : List Loop) (e : Element) (a : Arguments) (frame : Frame)
    (turn : Turn) → frame.loops ≡ loop ∷ outer → loop.turns ≡ turns →
    elim turns [
      | None ↦ turn_to no_arguments loop.start (loop ∷ outer) frame
      | Some more ↦ elim more [
        | zero ↦ turn_to no_arguments e.next outer frame
        | suc n ↦ turn_to no_arguments loop.start
            (record loop { turns = Some n } ∷ outer) frame
      ]
    ] ≡ turn →
    Goes flow.EndTurn e a frame turn
turned None loop outer e a frame turn o t h =
    let same : turn_to no_arguments loop.start (loop ∷ outer) frame ≡ turn_to no_arguments loop.start
    (record { start = loop.start; turns = None } ∷ outer) frame =
    ap (λ turns. turn_to no_arguments loop.start (record { start = loop.start; turns = turns } ∷ outer) frame) t in
    record {
      way = 0;
      went = record {
        loop = loop;
        outer = outer;
        turns = None;
        inside = o;
        counts = rw t refl;
        gone = sym h ∙ same;
      };
    }
turned (Some (suc n)) loop outer e a frame turn o t h =
    record {
      way = 0;
      went = record {
        loop = loop;
        outer = outer;
        turns = Some n;
        inside = o;
        counts = rw t (n, refl, refl);
        gone = sym h;
      };
    }
turned (Some zero) loop outer e a frame turn o t h =
    record { way = 1; went = record { loop = loop; outer = outer; inside = o; last = t; gone = sym h } }

ended : (loops : List Loop) (e : Element) (a : Arguments) (frame : Frame) (turn : Turn) → frame.loops ≡ loops
    → turn_end e loops frame ≡ Ok turn → Goes flow.EndTurn e a frame turn
ended [] e a frame turn o h = absurd (cc)
ended (loop ∷ outer) e a frame turn o h = turned loop.turns loop outer e a frame turn o refl (ok _ turn h)

left_where : (b : Bool) (n : ℤ) (loop : Loop) (outer : List Loop) (e : Element) (a : Arguments) (frame : Frame)
    (turn : Turn) → e.kind ≡ kind.Flow flow.Leave → frame.loops ≡ loop ∷ outer → Took a (Some n)
    → leaves e.colons n ≡ b →
    leaving_where b e (levels_after_taking a) frame ≡ Ok turn → Goes flow.Leave e a frame turn
left_where true n loop outer e a frame turn k o took l h =
    record {
      way = 1;
      went = record {
        n = n;
        took = took;
        leaves = l;
        loop = loop;
        outer = outer;
        inside = o;
        jumps = jumped code.Utc 1 e no_arguments frame turn (leaves_by_kind (kind.Flow flow.Leave) e frame.text k) h;
      };
    }
left_where false n loop outer e a frame turn k o took l h =
    record { way = 0; went = record { n = n; took = took; stays = l; gone = sym (ok _ turn h) } }

left : (loops : List Loop) (e : Element) (a : Arguments) (frame : Frame) (turn : Turn) → e.kind ≡ kind.Flow flow.Leave
    → frame.loops ≡ loops → leaving e loops a frame ≡ Ok turn → Goes flow.Leave e a frame turn
left [] e a frame turn k o h = absurd (cc)
left (loop ∷ outer) e a frame turn k o h =
    let own = bound (arguments_of a.level) _ turn h in
    let n = bound (needed_value own.before.value) _ turn own.gives in
    left_where (leaves e.colons n.before) n.before loop outer e a frame turn k o
    (record { taken = own.before; took = own.was; value_is = needed own.before.value n.before n.was }) refl n.gives

tested : (test : Test) (b : Bool) (n : ℤ) (e : Element) (a : Arguments) (frame : Frame) (turn : Turn)
    → e.kind ≡ kind.Flow (flow.Test test) → Took a (Some n) → holds test n ≡ b
    → conditional b e (levels_after_taking a) frame ≡ Ok turn → Goes (flow.Test test) e a frame turn
tested test true n e a frame turn k took l h =
    record { way = 0; went = record { n = n; took = took; true_here = l; gone = sym (ok _ turn h) } }
tested test false n e a frame turn k took l h =
    record {
      way = 1;
      went = record {
        n = n;
        took = took;
        false_here = l;
        jumps = jumped code.Utc 0 e (levels_after_taking a) frame turn
            (leaves_by_kind (kind.Flow (flow.Test test)) e frame.text k) h;
      };
    }

reached : (value : Option ℤ) (e : Element) (a : Arguments) (frame : Frame) (there turn : Turn) → Took a value
    → jump code.Tag e no_arguments frame ≡ Ok there → without_value value there ≡ Ok turn
    → Goes flow.GoTo e a frame turn
reached (Some n) e a frame there turn took j h = absurd (cc)
reached None e a frame there turn took j h =
    record {
      way = 0;
      went = record {
        took = took;
        left = (skip_of frame.text (Whole e)).leaves;
        jumps = jumped code.Tag (skip_of frame.text (Whole e)).leaves e no_arguments frame turn refl (j ∙ h);
      };
    }

-- F>, F' and F| jump, and leave no iteration
ahead_leaves : (g : Goal) (tag : List ℕ) (rest : List Reading)
    → (skip_on (route_of (kind.Flow (flow.GoAhead g))) tag rest).leaves ≡ 0
ahead_leaves goal.EndTurn tag rest = refl
ahead_leaves goal.EndTest tag rest = refl
ahead_leaves goal.Otherwise tag rest = refl

pub leaves_none : (g : Goal) (e : Element) (text : List ℕ) → e.kind ≡ kind.Flow (flow.GoAhead g)
    → (skip_of text (Whole e)).leaves ≡ 0
leaves_none g e text k = leaves_by_kind (kind.Flow (flow.GoAhead g)) e text k
    ∙ ahead_leaves g e.text (readings text e.next)

inside_jumps : (loops : List Loop) (e : Element) (a : Arguments) (frame : Frame) (turn : Turn)
    → to_turn_end e loops a frame ≡ Ok turn → jump code.Utc e a frame ≡ Ok turn
inside_jumps [] e a frame turn h = absurd (cc)
inside_jumps (loop ∷ outer) e a frame turn h = h

ahead_jumps : (g : Goal) (e : Element) (a : Arguments) (frame : Frame) (turn : Turn) → going_ahead g e a frame ≡ Ok turn
    → jump code.Utc e a frame ≡ Ok turn
ahead_jumps goal.EndTurn e a frame turn h = inside_jumps frame.loops e a frame turn h
ahead_jumps goal.EndTest e a frame turn h = h
ahead_jumps goal.Otherwise e a frame turn h = h

pub turn_goes : (f : Flow) (e : Element) (a : Arguments) (frame : Frame) (turn : Turn) → e.kind ≡ kind.Flow f
    → turn_of f e a frame ≡ Ok turn → Goes f e a frame turn
turn_goes flow.Iterate e a frame turn k h =
    let own = bound (arguments_of a.level) _ turn h in
    iterated own.before.value e a frame turn k (record { taken = own.before; took = own.was; value_is = refl })
    own.gives
turn_goes flow.EndTurn e a frame turn k h = ended frame.loops e a frame turn refl h
turn_goes flow.Leave e a frame turn k h = left frame.loops e a frame turn k refl h
turn_goes (flow.Test test) e a frame turn k h =
    let own = bound (arguments_of a.level) _ turn h in
    let n = bound (needed_value own.before.value) _ turn own.gives in
    tested test (holds test n.before) n.before e a frame turn k
    (record { taken = own.before; took = own.was; value_is = needed own.before.value n.before n.was }) refl n.gives
turn_goes flow.Otherwise e a frame turn k h =
    record {
      way = 0;
      went = jumped code.Utc 0 e a frame turn (leaves_by_kind (kind.Flow flow.Otherwise) e frame.text k)
          h;
    }
turn_goes flow.EndTest e a frame turn k h = record { way = 0; went = sym (ok _ turn h) }
turn_goes flow.GoTo e a frame turn k h =
    let own = bound (arguments_of a.level) _ turn h in
    let there = bound (jump code.Tag e no_arguments frame) _ turn own.gives in
    reached own.before.value e a frame there.before turn
    (record { taken = own.before; took = own.was; value_is = refl }) there.was there.gives
turn_goes flow.Comment e a frame turn k h = record { way = 0; went = sym (ok _ turn h) }
turn_goes (flow.GoAhead g) e a frame turn k h =
    record {
      way = 0;
      went = jumped code.Utc 0 e a frame turn (leaves_none g e frame.text k)
          (ahead_jumps g e a frame turn h);
    }
