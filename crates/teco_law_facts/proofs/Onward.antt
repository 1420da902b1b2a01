-- Each element proceeds along its edges.
use Rattle.teco_law_facts.proofs.Prelude.{ap, drop, ◌∙◌, ◌≡◌, ℕ, zero, suc, ◌+◌, ◌≤◌, arith, refl, sym, subst, ℤ, pos}
use Rattle.teco_law_facts.proofs.Prelude.{negsuc, List, [], ◌∷◌, Bool, true, false, ◌||◌, Option, Some, None, IfSome}
use Rattle.teco_law_facts.proofs.Prelude.{MatchOption, Result, Ok, Err, IfOk, inl, inr, nat_tests, Code, Output, Turn}
use Rattle.teco_law_facts.proofs.Prelude.{After, settle, Met, Turned, unread_of, Finding, Found, Missed, Whole}
use Rattle.teco_law_facts.proofs.Prelude.{readings, skip_of, Kept, World, Frame, State, Outcome, Taken, Loop, Flow}
use Rattle.teco_law_facts.proofs.Prelude.{Kind, Search, Polynomial, Run, Describes, run_behind, Facts, Edges, Succeeds}
use Rattle.teco_law_facts.proofs.Prelude.{Arrives, FitsOn, ArrivesOn, IsReached, ComesTo, Comes, answer_where}
use Rattle.teco_law_facts.proofs.Prelude.{IsInBuffer, MissArrives, SearchArrives, finding, IsInPages, facts_seeking}
use Rattle.teco_law_facts.proofs.Prelude.{IsSeeking, MissComes, LooksOn, Seeks, LeadsAhead, IsInside, KindStands}
use Rattle.teco_law_facts.proofs.Prelude.{FlowStands, BeginsAt, GoesBehind, FlowGoes, KindEnds, Proceeds, Placed}
use Rattle.teco_law_facts.proofs.Prelude.{transfer}
use Rattle.std.proofs.Common.{nat_lt}
use Rattle.teco_base.specs.declared.code.Code.TheVariants as code
use Rattle.teco_model.specs.Arguments as model
use Rattle.teco_model.specs.Flow as flows
use Rattle.teco_model.specs.Checked.{◌>>=◌}
use Rattle.teco_model.specs.Element as model_element
use Rattle.teco_model.specs.Going.{Behind, Reply, replying, on_editor}
use Rattle.teco_model.specs.Paging as paging
use Rattle.teco_model.specs.Paging.{Looked, Through}
use Rattle.teco_model.specs.Search as searching
use Rattle.teco_model.specs.Searching as outcomes
use Rattle.teco_model.specs.Skip.{skip_on, route_of}
use Rattle.teco_model.specs.Step as stepping
use Rattle.teco_model.specs.declared.kind.Call.{Call}
use Rattle.teco_model.specs.declared.kind.Kind.TheVariants as kind
use Rattle.teco_law_facts.proofs.Steps.{by_kind}
use Rattle.teco_law_facts.proofs.Flowing.{others_are_sound}
use Rattle.teco_law_facts.proofs.Going.{leads_at, ok_at, then_so, of_one, arrives_comes, on_comes, goes_behind}
use Rattle.teco_law_facts.proofs.Going.{flow_goes}
use Rattle.teco_law_facts.proofs.Searching.{searches_are_sound}
use Rattle.teco_law_facts.proofs.Seeking.{page_searches_are_sound}
use Rattle.teco_law_facts.specs.SoundSeeking.{ComesAway}

-- a search that counts as having no colon has none
no_colons : (colons : ℕ) (leave : Bool) → (nat_lt 0 colons || leave) ≡ false → colons ≡ 0
no_colons colons leave e = by (nat_lt 0 colons) refl e where
  by : (b : Bool) → nat_lt 0 colons ≡ b → (b || leave) ≡ false → colons ≡ 0
  by true w e = absurd (cc)
  by false w e = grind (arith, nat_tests)

-- a match answers where the search has a colon
silent : (r : Result Turn Code) → outcomes.answer_by (outcomes.leaving_by r) ≡ None
silent (Ok turn) = refl
silent (Err c) = refl

silent_within : (loops : List Loop) (e : model_element.Element) (frame : Frame)
    → outcomes.answer_by (outcomes.miss_within loops e frame) ≡ None
silent_within [] e frame = refl
silent_within (loop ∷ outer) e frame = silent (flows.jump code.Utc e model.no_arguments frame)

answers_where : (colon : Bool) (e : model_element.Element) (frame : Frame)
    → outcomes.answer_by (outcomes.miss_where colon e frame) ≡ answer_where colon (negsuc 0)
answers_where true e frame = refl
answers_where false e frame = silent_within frame.loops e frame

-- a call changes nothing
call_held : (x : Placed) (facts : Facts) (c : Call) → x.element.kind ≡ kind.Call c
    → IfOk (transfer x facts) (λ edges. IfSome edges.on (λ next. next.held ≡ facts.held))
call_held x facts c e =
    by_kind x facts _ (λ r. IfOk r (λ edges. IfSome edges.on (λ next. next.held ≡ facts.held))) e refl

all_away : (run : Run) (held : Polynomial) (old : World) (kept : Kept) (o : Option Facts)
    → ((typed : List ℕ) → MatchOption o ⊥
    (λ next. Arrives run held (unread_of old) old.kept next
    (record { kept = record kept { typed = typed }; arguments = model.no_arguments })))
    → MatchOption o ⊥ (λ next. (typed : List ℕ)
    → ComesTo run held old next model.no_arguments (record old { kept = record kept { typed = typed } }))
all_away run held old kept None h = h []
all_away run held old kept (Some next) h =
    λ typed. arrives_comes run held old (record kept { typed = typed }) model.no_arguments (Some next) (h typed)

with_typed : (run : Run) (held : Polynomial) (old new : World) (o : Option Facts)
    → MatchOption o ⊥ (λ next. (typed : List ℕ)
    → ComesTo run held old next model.no_arguments (record new { kept = record new.kept { typed = typed } }))
    → (typed : List ℕ) → MatchOption o ⊥
    (λ next. ComesTo run held old next model.no_arguments (record new { kept = record new.kept { typed = typed } }))
with_typed run held old new None h typed = h
with_typed run held old new (Some next) h typed = h typed

module _ (run : Run) (facts : Facts) (x : Placed) (edges : Edges) (s : State) (h : BeginsAt run facts x s)
    (t : transfer x facts ≡ Ok edges) where
  abbrev u : ℕ
  u = unread_of s.world

  abbrev frame : Frame
  frame = s.frames.running

  abbrev Goes : Kind → ℕ → Outcome → Type 0
  Goes k most outcome = Proceeds k run facts x edges s most outcome

  abbrev Passes : State → Type 0
  Passes new = GoesBehind run facts.held edges x.element s new

  -- ---- on behind an element
  pub outcome_goes : (k : Kind) (most : ℕ) → 1 ≤ most
      → ((new : State) → Passes new → KindEnds k run facts x edges s new) → (r : Result After Code)
      → Succeeds (ArrivesOn run facts.held u s.world.kept edges) r
      → Goes k most (settle x.element s (on_editor s.left s.world r))
  outcome_goes k most some i (Err c) g = absurd g
  outcome_goes k most some i (Ok done) g =
      inl (some, i _ (goes_behind run facts.held edges x.element s h.left (Ok done) g))

  -- ---- flow and calls
  flow_on : (f : Flow) (most : ℕ) → 1 ≤ most → (r : Result Turn Code) → flows.turn_of f x.element s.arguments frame ≡ r
      → Succeeds (FlowGoes f run facts.held x edges s) r
      → Goes (kind.Flow f) most (settle x.element s (stepping.flow_reply s.left s.world r))
  flow_on f most some (Err c) e g = absurd g
  flow_on f most some (Ok turn) e g = inl (some, record { turn = turn; turns = e; goes = g; gone = refl })

  pub flow_proceeds : (f : Flow) (most : ℕ) → 1 ≤ most → x.element.kind ≡ kind.Flow f → FlowStands f facts x frame
      → Goes (kind.Flow f) most (settle x.element s
      (stepping.flow_reply s.left s.world (flows.turn_of f x.element s.arguments frame)))
  flow_proceeds f most some e k = flow_on f most some _ refl (flow_goes run facts x edges s h t f e k)

  stays_comes : (o : Option Facts) → IfSome o (λ next. next.held ≡ facts.held)
      → MatchOption o ⊥ (λ next. Describes run next u s.world.kept s.arguments)
      → MatchOption o ⊥ (λ next. ComesTo run facts.held s.world next s.arguments s.world)
  stays_comes None e i = i
  stays_comes (Some next) e i = record { described = i; grown = rw e (omega arith) }

  pub call_proceeds : (c : Call) (most : ℕ) → 1 ≤ most → x.element.kind ≡ kind.Call c
      → Goes (kind.Call c) most (settle x.element s (Ok (stepping.call_reply c s)))
  call_proceeds c most some e = inl (
    some,
    record {
      comes = stays_comes edges.on (ok_at (λ edges. IfSome edges.on (λ next. next.held ≡ facts.held))
          (transfer x facts) edges t (call_held x facts c e))
          (ok_at (λ edges. IsReached run edges.on u s.world.kept s.arguments) (transfer x facts) edges t
          ((others_are_sound run facts u s.world.kept s.arguments x h.described).call c e));
      gone = refl;
    },
  )

  -- ---- searches
  module _ (q : Search) (of_search : x.element.kind ≡ kind.Search q) (most : ℕ) (some : 1 ≤ most)
      (stands : x.colon ≡ false → IsInside facts frame × LeadsAhead x.element frame) where
    -- what is pending behind a search that took its arguments
    abbrev rest : model.Arguments
    rest = model.levels_after_taking s.arguments

    -- what a reply comes to, at the first step or at a later one
    abbrev Replies : World → model.Arguments → Option ℕ → Result Reply Code → Type 0
    Replies now arguments left r = Goes (kind.Search q) most
        (settle x.element (record s { world = now; arguments = arguments; left = left }) r)

    found_goes : (answer : Option ℤ) (world now : World) (arguments : model.Arguments) (before left : Option ℕ)
        → left ≡ None → Comes run facts.held s.world (model.levels_after_answer answer rest) edges world
        → Replies now arguments before (Ok (replying Behind left (model.levels_after_answer answer rest) world))
    found_goes answer world now arguments before left l c =
        inl (some, inl (record { comes = c; frames = refl; done = l }))

    met_goes : (world now : World) (arguments : model.Arguments) (before left : Option ℕ) → left ≡ None
        → Comes run facts.held s.world (model.levels_after_answer (answer_where x.colon (negsuc 0)) rest) edges world
        → Replies now arguments before (Ok (outcomes.met (outcomes.miss_where x.colon x.element frame) left rest world))
    met_goes world now arguments before left l c =
        subst (λ answer. Replies now arguments before
        (Ok (replying Behind left (model.levels_after_answer answer rest) world)))
        (sym (answers_where x.colon x.element frame))
        (found_goes (answer_where x.colon (negsuc 0)) world now arguments before left l c)

    module _ (stays missed now : World) (arguments : model.Arguments) (before left : Option ℕ) (l : left ≡ None)
        (colon : x.colon ≡ false) (c : ComesAway (run_behind 1 run) facts.held s.world edges missed) where
      -- a jump that leaves one iteration
      record LeavesOne (turn : Turn) : Type 0 where
        none : turn.arguments ≡ model.no_arguments
        loops : turn.frame.loops ≡ drop 1 frame.loops

      leaves_by : (loop : Loop) (outer : List Loop) → frame.loops ≡ loop ∷ outer → (r : Result Turn Code)
          → flows.jump code.Utc x.element model.no_arguments frame ≡ r → Succeeds LeavesOne r
          → Replies now arguments before (Ok (outcomes.missed (outcomes.leaving_by r) left rest stays missed))
      leaves_by loop outer w (Err why) e g = absurd g
      leaves_by loop outer w (Ok turn) e g =
          let rest : turn.frame.loops ≡ outer = g.loops ∙ ap (drop 1) w in
          inl (
            some,
            inr (
              colon,
              record {
                comes = rw g.none (with_typed (run_behind 1 run) facts.held s.world missed edges.away c _);
                turn = turn;
                jumps = e;
                frames = refl;
                loop = loop;
                loops = w ∙ ap (λ outer. loop ∷ outer) (sym rest);
                done = l;
              },
            ),
          )

      leaves_one : (skip_of frame.text (Whole x.element)).leaves ≡ 1
      leaves_one = subst (λ k. (skip_on (route_of k) x.element.text (readings frame.text x.element.next)).leaves ≡ 1)
          (sym of_search) refl

      jumps : LeadsAhead x.element frame → Succeeds LeavesOne (flows.jump code.Utc x.element model.no_arguments frame)
      jumps (place, e) = rw e (record { none = refl; loops = ap (λ n. drop n frame.loops) leaves_one })

      leaves_in : (loops : List Loop) (loop : Loop) (outer : List Loop) → frame.loops ≡ loop ∷ outer
          → loops ≡ loop ∷ outer → LeadsAhead x.element frame
          → Replies now arguments before (Ok
          (outcomes.missed (outcomes.miss_within loops x.element frame) left rest stays missed))
      leaves_in [] loop outer w e a = absurd (cc)
      leaves_in (first ∷ others) loop outer w e a = leaves_by loop outer w _ refl (jumps a)

      leaves_goes : Replies now arguments before
          (Ok (outcomes.missed (outcomes.miss_within frame.loops x.element frame) left rest stays missed))
      leaves_goes = let k = stands colon in leaves_in frame.loops k.0.loop k.0.outer k.0.loops k.0.loops k.1

    -- S and FS
    at_begin : (colons : ℕ) (kept : Kept) → colons ≡ 0 → outcomes.kept_by_miss colons kept ≡ outcomes.at_start kept
    at_begin zero kept e = refl
    at_begin (suc colons) kept e = absurd (cc)

    missed_goes : (colon : Bool) → x.colon ≡ colon → (colon ≡ false → x.element.colons ≡ 0) → (new : Kept)
        → MissArrives colon run facts.held u s.world.kept s.arguments x.element.colons edges new →
        Replies s.world s.arguments s.left
        (Ok (outcomes.missed (outcomes.miss_where colon x.element frame) s.left rest (record s.world { kept = new })
        (record s.world { kept = outcomes.kept_by_miss x.element.colons new })))
    missed_goes true e z new m = found_goes (Some (pos 0)) _ s.world s.arguments s.left s.left h.left
        (on_comes run facts.held s.world _ _ edges m)
    missed_goes false e z new m = leaves_goes _ _ s.world s.arguments s.left s.left h.left e
        (subst (λ kept. ComesAway (run_behind 1 run) facts.held s.world edges (record s.world { kept = kept }))
        (sym (at_begin x.element.colons new (z refl)))
        (all_away (run_behind 1 run) facts.held s.world (outcomes.at_start new) edges.away m))

    finding_goes : (x.colon ≡ false → x.element.colons ≡ 0) → (r : Result Finding Code)
        → Succeeds (SearchArrives run facts.held u s.world.kept s.arguments x edges) r
        → Replies s.world s.arguments s.left
        (r >>= λ finding. Ok (outcomes.found x.element (outcomes.miss_where x.colon x.element frame) s.left rest
        s.world finding))
    finding_goes z (Err c) g = absurd g
    finding_goes z (Ok (Found new)) g =
        met_goes _ s.world s.arguments s.left s.left h.left (on_comes run facts.held s.world new _ edges g)
    finding_goes z (Ok (Missed new)) g = missed_goes x.colon refl z new g

    -- the arguments are taken first
    taken_goes : (x.colon ≡ false → x.element.colons ≡ 0) → (r : Result Taken Code)
        → Succeeds (SearchArrives run facts.held u s.world.kept s.arguments x edges)
        (r >>= λ taken. searching.search q x.element taken s.world.kept) →
        Replies s.world s.arguments s.left
        (r >>= λ taken. searching.search q x.element taken s.world.kept >>= λ finding.
        Ok (outcomes.found x.element (outcomes.miss_where x.colon x.element frame) s.left rest s.world finding))
    taken_goes z (Err c) g = absurd g
    taken_goes z (Ok taken) g = finding_goes z _ g

    -- N and FN
    through_goes : (colon : Bool) → x.colon ≡ colon
        → (last missed now : World) (arguments : model.Arguments) (before : Option ℕ)
        → MissComes colon run facts.held s.world s.arguments edges missed
        → Replies now arguments before (Ok
        (outcomes.missed (outcomes.miss_where colon x.element frame) None rest last missed))
    through_goes true e last missed now arguments before m =
        found_goes (Some (pos 0)) missed now arguments before None refl m
    through_goes false e last missed now arguments before m = leaves_goes last missed now arguments before None refl e m

    pub looked_goes : IsInPages q → (now : World) (arguments : model.Arguments) (before : Option ℕ)
        → unread_of now + 1 ≤ most → (r : Result Looked Code)
        → Succeeds (LooksOn run (facts_seeking facts) s.world s.arguments x edges now) r
        → Replies now arguments before (outcomes.looking (outcomes.miss_where x.colon x.element frame) rest r)
    looked_goes p now arguments before b (Err c) g = absurd g
    looked_goes p now arguments before b (Ok (Met new)) g = met_goes new now arguments before None refl g
    looked_goes p now arguments before b (Ok (Turned n new)) g = inr (
      unread_of new + 1,
      omega (arith, g.1, b),
      record {
        some = omega arith;
        pending = refl;
        frames = refl;
        output = g.0.output;
        work = (p, (n, refl), omega arith, g.0);
      },
    )
    looked_goes p now arguments before b (Ok (Through last)) g =
        through_goes x.colon refl last (paging.looked_through last) now arguments before g

    first_goes : IsInPages q → unread_of s.world + 1 ≤ most → (r : Result Taken Code)
        → Succeeds (LooksOn run (facts_seeking facts) s.world s.arguments x edges s.world)
        (r >>= λ taken. paging.look_first q x.element taken s.world) →
        Replies s.world s.arguments s.left
        (r >>= λ taken. outcomes.looking (outcomes.miss_where x.colon x.element frame) rest
        (paging.look_first q x.element taken s.world))
    first_goes p b (Err c) g = absurd g
    first_goes p b (Ok taken) g = looked_goes p s.world s.arguments s.left b _ g

  has_none : x.colon ≡ false → x.element.colons ≡ 0
  has_none e = no_colons x.element.colons (outcomes.is_leave _) (subst (λ colon. colon ≡ false) h.colon e)

  pub search_proceeds : (q : Search) (most : ℕ) → 1 ≤ most → FitsOn run.n edges → IsInBuffer q
      → x.element.kind ≡ kind.Search q → KindStands (kind.Search q) facts x frame →
      Goes (kind.Search q) most (settle x.element s
      (outcomes.found_in_buffer q x.element (outcomes.miss_of x.element frame) s.left s.arguments s.world))
  search_proceeds q most some fits b e k =
      subst (λ colon. Goes (kind.Search q) most
      (settle x.element s (outcomes.found_in_buffer q x.element (outcomes.miss_where colon x.element frame) s.left
      s.arguments s.world))) h.colon
      (taken_goes q e most some k has_none (model.arguments_of s.arguments.level)
      (leads_at (FitsOn run.n) _ (transfer x facts) (finding q x.element s.world.kept s.arguments) edges t fits
      (searches_are_sound run facts u s.world.kept s.arguments x q h.whole.world.kept h.described e b has_none)))

  searched : (q : Search) → FitsOn run.n edges → IsInPages q → x.element.kind ≡ kind.Search q → (output : Output)
      → s.world.files.output ≡ Some output → Succeeds (Seeks run (facts_seeking facts) s.world s.arguments x q edges)
      (model.arguments_of s.arguments.level)
  searched q fits b e output o = leads_at (FitsOn run.n) _ (transfer x facts) (model.arguments_of s.arguments.level)
      edges t fits (page_searches_are_sound run facts s.world s.arguments x q output h.whole.world.kept h.described e b
      o)

  pub look_proceeds : (q : Search) (most : ℕ) → FitsOn run.n edges → IsInPages q → x.element.kind ≡ kind.Search q
      → KindStands (kind.Search q) facts x frame → (output : Output) → s.world.files.output ≡ Some output
      → u + 1 ≤ most →
      Goes (kind.Search q) most (settle x.element s
      (outcomes.found_in_pages q x.element (outcomes.miss_of x.element frame) s.left s.arguments s.world))
  look_proceeds q most fits b e k output o m =
      subst (λ left. Goes (kind.Search q) most
      (settle x.element s (outcomes.found_in_pages q x.element (outcomes.miss_of x.element frame) left s.arguments
      s.world))) (sym h.left)
      (subst (λ colon. Goes (kind.Search q) most
      (settle x.element s (outcomes.found_in_pages q x.element (outcomes.miss_where colon x.element frame) None
      s.arguments s.world))) h.colon
      (first_goes q e most (omega arith) k b m (model.arguments_of s.arguments.level)
      (then_so _ (LooksOn run (facts_seeking facts) s.world s.arguments x edges s.world)
      (model.arguments_of s.arguments.level) (λ taken. paging.look_first q x.element taken s.world)
      (searched q fits b e output o) (λ taken w i. i.begins))))

  pub look_again : (q : Search) (most : ℕ) → FitsOn run.n edges → IsInPages q → x.element.kind ≡ kind.Search q
      → KindStands (kind.Search q) facts x frame → (output : Output) → s.world.files.output ≡ Some output
      → (now : World) (n : ℕ) (left : Option ℕ)
      → IsSeeking run (facts_seeking facts) s.world s.arguments x.element.text now → unread_of now + 1 ≤ most →
      Goes (kind.Search q) most (settle x.element
      (record s { world = now; arguments = model.levels_after_taking s.arguments; left = left })
      (outcomes.looking (outcomes.miss_of x.element frame) (model.levels_after_taking s.arguments)
      (paging.look_for q x.element n now)))
  look_again q most fits b e k output o now n left i m =
      subst (λ colon. Goes (kind.Search q) most
      (settle x.element (record s { world = now; arguments = model.levels_after_taking s.arguments; left = left })
      (outcomes.looking (outcomes.miss_where colon x.element frame) (model.levels_after_taking s.arguments)
      (paging.look_for q x.element n now)))) h.colon
      (looked_goes q e most (omega arith) k b now (model.levels_after_taking s.arguments) left m _
      (of_one (Seeks run (facts_seeking facts) s.world s.arguments x q edges)
      (Succeeds (LooksOn run (facts_seeking facts) s.world s.arguments x edges now)
      (paging.look_for q x.element n now)) _ (searched q fits b e output o) (λ taken j. j.more now n i)))
