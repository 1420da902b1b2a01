-- One step of a path.
use Rattle.teco_paths.proofs.Prelude.{cases_order, ◌≡◌, ◌⊎◌, inl, inr, ℕ, zero, suc, ◌+◌, ◌<◌, ◌≤◌, refl, sym, ap, ◌∙◌}
use Rattle.teco_paths.proofs.Prelude.{subst, arith, List, [], ◌∷◌, ◌++◌, map, length, Bool, true, false, Option, Some}
use Rattle.teco_paths.proofs.Prelude.{None, Ok, All, Any, option_map_or, AreLinked, NodesAreSound, StepsGoAlongNodes}
use Rattle.teco_paths.proofs.Prelude.{AreOpen, IsLeftAt, NoFileCommands, Term, Valuation, Holds, Implies, Loop, Kind}
use Rattle.teco_paths.proofs.Prelude.{Element, element_at, IsLoaded, Library, Needs, Reaches, Frame, Frames, State}
use Rattle.teco_paths.proofs.Prelude.{Next, step, text_in, Case, Guarded, Outcomes, turned, Goes, StepsTo, loops_in}
use Rattle.teco_paths.proofs.Prelude.{point_of, Describes, IsTrueOf, NodeCase, Comes, Ground, IsAt, StandsBy, AreSpots}
use Rattle.teco_paths.proofs.Prelude.{GoOn, GoesBy, AreMet, IsKept, IsPlain, IsRead, IsTold, LawAt, Passes, cases_by}
use Rattle.teco_paths.proofs.Prelude.{Node, Stand, numbered, Position, start_of, spot_of, ways_at}
use Rattle.std.specs.Option.{is_some}
use Rattle.teco_law_runs.specs.Framing.{OfNode}
use Rattle.teco_law_runs.specs.Linked.{Lead}
use Rattle.teco_law_runs.specs.Loaded.{StaysLoaded}
use Rattle.teco_law_runs.specs.Wholeness.{IsWholeState, IsWholeOutcome, WholeIsKept}
use Rattle.teco_law_runs.proofs.Lookup.{node_of}
use Rattle.teco_law_runs.proofs.Staying.{open_as_before}
use Rattle.teco_law_runs.proofs.Walking.{none_more, none_yet, one_step, reads_none, reaches_here, reaches_none}
use Rattle.teco_law_runs.proofs.Walking.{reaches_on, same_next}
use Rattle.teco_law_runs.specs.Staying.{FilesStayOpen, changes_files, is_of_files}
use Rattle.teco_model.specs.declared.kind.Call.{Call}
use Rattle.teco_model.specs.declared.kind.Command.TheVariants as command
use Rattle.teco_model.specs.declared.kind.Kind.TheVariants as kind
use Rattle.teco_model.specs.declared.kind.Stack.TheVariants as stack
use Rattle.teco_model.specs.declared.kind.Storage.TheVariants as storage
use Rattle.teco_model.specs.Macros.{is_macro}
use Rattle.teco_model.specs.Step.{end_outcome, end_of_text, outcome_at, outcome_of, reply_of}
use Rattle.teco_model.specs.Going.{frames_in}
use Rattle.teco_model.proofs.Chains.{ok}
use Rattle.teco_model.specs.Run.{run}
use Rattle.teco_model.specs.State.{Outcome}
use Rattle.teco_rows.specs.Foretold.{Begins, IsGuarded}
use Rattle.teco_search_outcomes.specs.PageSearches.{IsStill}
use Rattle.teco_paths.specs.Steps.{GoesByFrames, GoesOn, IsAmid, IsCall, IsDuring, IsEndOrCall, IsTextEnd}
use Rattle.teco_paths.proofs.Standing.{left_behind, position_here, linked_here, reads_here, reads_there}
use Rattle.teco_verifier.specs.expansion.Names.{named_by, written_by, names_macro, writes_macro}
use Rattle.teco_verifier.specs.expansion.Position.{position_of_frames}
use Rattle.teco_verifier.specs.expansion.Ways.{return_ways}

-- ---- what comes of a step
steps_to : (P : State → Type 0) (o : Outcome) → StepsTo P o → (t : State) × (o ≡ Next t) × P t
steps_to P (Next t) h = (t, refl, h)
steps_to P o h = absurd (grind arith)

whole_next : (whole : WholeIsKept) (s t : State) → IsWholeState s → step s ≡ Next t → IsWholeState t
whole_next whole s t h goes = subst IsWholeOutcome goes (whole.steps s h)

-- ---- no text of the library is written, and no file is touched
named_too : (k : Kind) (r : ℕ) → written_by k ≡ Some r → named_by k ≡ Some r
named_too (kind.Stack (stack.Pop q)) r h = h
named_too (kind.Command (command.Storage (storage.Copy q))) r h = h
named_too (kind.Command (command.Storage (storage.SetText q))) r h = h
named_too k r h = absurd (cc)

unnamed : (library : Library) (written named : Option ℕ) → ((r : ℕ) → written ≡ Some r → named ≡ Some r)
    → option_map_or (is_macro library) named false ≡ false → option_map_or (is_macro library) written false ≡ false
unnamed library None named h g = refl
unnamed library (Some r) named h g = ap (λ o. option_map_or (is_macro library) o false) (sym (h r refl)) ∙ g

no_files : (k : Kind) → IsTold k → is_of_files k ≡ false
no_files (kind.Flow f) told = refl
no_files (kind.Argument a) told = refl
no_files (kind.Value a) told = refl
no_files (kind.Query a) told = refl
no_files (kind.Stack a) told = refl
no_files (kind.Command a) told = refl
no_files (kind.Page a) told = refl
no_files (kind.Call a) told = refl
no_files (kind.Search a) told = refl
no_files (kind.File a) told = absurd told

-- ---- frames that are the same
from_frames : (away : Bool) (e : Element) (t : State) (old new : Frames) → old ≡ new
    → GoesByFrames away e old t → GoesByFrames away e new t
from_frames away e t old new same h = subst (λ f. GoesByFrames away e f t) same h

-- ---- the laws that steps stand on
pub record Laws : Type 0 where
  pub whole : WholeIsKept
  pub along : StepsGoAlongNodes
  pub loaded : StaysLoaded
  pub sound : NodesAreSound
  pub opened : FilesStayOpen

-- a state that a run comes to at an element so many steps after the first
record IsMidway (nodes : List Node) (ground : Ground) (number : ℕ) (s : State) (k : ℕ) (u : State) : Type 0 where
  pub during : IsDuring nodes ground number u
  pub whole : IsWholeState u
  pub files : AreOpen ground.needs u.world.files
  pub frames : u.frames ≡ s.frames
  pub reached : Reaches k s u
  pub none : NoFileCommands s k
  pub amid : (j : ℕ) (t : State) → j ≤ k → Reaches j s t → IsAmid nodes s j t

conditions_hold : (case : Case) (targets : List (List Term)) (n : ℕ) (v : Valuation)
    → All (Implies case.constraints.items) targets
    → All (Holds n v) case.constraints.items → All (Holds n v) targets
conditions_hold case targets n v implied hold k d l = implied k d l n v hold

guarded_hold : (targets : List Guarded) (n : ℕ) (v : Valuation) → All IsKept targets
    → All (IsGuarded n v) targets
guarded_hold targets n v kept k d l w agree hold = kept k d l n w hold

module _ (laws : Laws) (nodes : List Node) (number : ℕ) (case : Case) (all : Outcomes) (spots : List NodeCase)
    (asked : AreMet case all) (are : AreSpots nodes number all spots)
    (ground : Ground) (steps : ℕ) (s : State) (linked : AreLinked ground.library ground.entry nodes)
    (at : IsAt nodes ground number s) (v : Valuation)
    (true_of : IsTrueOf ground.n v case (point_of steps ground.origin s))
    (node : Node) (is : numbered nodes number ≡ Some node) where
  begins : Begins ground.n v case all (point_of steps ground.origin s)
  begins = record {
    whole = at.whole.world.kept;
    true_of = true_of;
    conditions = conditions_hold case all.conditions.items ground.n v asked.conditions true_of.fits.constraints;
    guarded = guarded_hold all.guarded.items ground.n v asked.guarded;
  }

  abbrev Midway : ℕ → State → Type 0
  Midway k u = IsMidway nodes ground number s k u

  amid_first : (j : ℕ) (t : State) → j ≤ 0 → Reaches j s t → IsAmid nodes s j t
  amid_first j t l r =
      let z : j ≡ 0 = omega (arith, l) in
      let same : s ≡ t = reaches_none s t (subst (λ j. Reaches j s t) z r) in
      subst (IsAmid nodes s j) same (record {
        held = omega arith;
        reads = OfNode number node is (reads_there nodes ground number s node linked is at.stands);
        registers = refl;
        begins = λ none. z;
      })

  first : Midway 0 s
  first = record {
    during = record {
      stands = at.stands;
      left = λ other h. subst (IsLeftAt other.element) (sym at.begins) tt;
      loaded = at.loaded;
    };
    whole = at.whole;
    files = at.files;
    frames = refl;
    reached = reaches_here s;
    none = none_yet s;
    amid = amid_first;
  }

  module _ (k : ℕ) (u : State) (mid : Midway k u) where
    reads : element_at u.frames.running.text u.frames.running.place ≡ Ok node.element
    reads = reads_here nodes ground number u node linked is mid.during.stands laws.sound

    module _ (t : State) (goes : step u ≡ Next t) (unwritten : writes_macro ground.library node.element ≡ false)
        (unfiled : changes_files node.element ≡ false) where
      loaded_behind : IsLoaded ground.library t.world.kept
      loaded_behind =
          laws.loaded ground.library u t node.element mid.during.loaded unwritten
          (reads_there nodes ground number u node linked is mid.during.stands) goes

      open_behind : AreOpen ground.needs t.world.files
      open_behind =
          open_as_before ground.needs u.world.files t.world.files (laws.opened u t node.element unfiled reads goes)
          mid.files

      none_behind : NoFileCommands s (suc k)
      none_behind = none_more k s u mid.none mid.reached (reads_none u node.element reads unfiled)

      reaches_behind : Reaches (k + 1) s t
      reaches_behind = reaches_on k 1 s u t mid.reached (one_step u t goes)

      -- a step that stays at the element
      module _ (still : IsStill s t) where
        left_there : (other : Node) → numbered nodes number ≡ Some other → IsLeftAt other.element t.left
        left_there other h =
            left_behind nodes ground number u other linked h mid.during.stands laws.along (mid.during.left other h)
            mid.during.loaded t goes

        stands_here : StandsBy nodes ground number t
        stands_here = record {
          stand = mid.during.stands.stand;
          at = mid.during.stands.at;
          position = mid.during.stands.position ∙ ap position_of_frames (mid.frames ∙ sym still.frames);
        }

        amid_here : (j : ℕ) → IsAmid nodes s j t
        amid_here j = record {
          held = still.held;
          reads = OfNode number node is (reads_there nodes ground number t node linked is stands_here);
          registers = still.registers;
          begins = λ none. let z : is_some t.left ≡ false = ap is_some none in absurd (let y = still.left in cc);
        }

        amid_there : (j : ℕ) (w : State) → j ≤ suc k → Reaches j s w → IsAmid nodes s j w
        amid_there j w l r = by (cases_order j (suc k))
          where
            by : (j ≡ suc k) ⊎ ((j < suc k) ⊎ (suc k < j)) → IsAmid nodes s j w
            by (inl e) =
                let z : k + 1 ≡ j = omega (arith, e) in
                let same : t ≡ w = same_next t w (sym reaches_behind ∙ (ap (λ i. run i s) z ∙ r)) in
                subst (IsAmid nodes s j) same (amid_here j)
            by (inr (inl less)) = mid.amid j w (omega (arith, less)) r
            by (inr (inr more)) = absurd (omega (arith, l, more))

        midway_next : Midway (suc k) t
        midway_next = record {
          during = record {
            stands = stands_here;
            left = left_there;
            loaded = loaded_behind;
          };
          whole = whole_next laws.whole u t mid.whole goes;
          files = open_behind;
          frames = still.frames;
          reached = let z : k + 1 ≡ suc k = omega arith in subst (λ j. Reaches j s t) z reaches_behind;
          none = none_behind;
          amid = amid_there;
        }

      -- a step whose state is known
      going : (away : Bool) → t.left ≡ None
          → ((e : Element) → node.element ≡ Some e → IsTold e.kind → GoesBy away e u t)
          → Any (λ made. Describes ground.n made (point_of (steps + (k + 1)) ground.origin t)) (cases_by away all)
          → GoesOn nodes ground steps s spots
      going away done along described = record {
        more = k;
        next = t;
        goes = reaches_behind;
        none = let z : suc k ≡ k + 1 = omega arith in subst (NoFileCommands s) z none_behind;
        amid = mid.amid;
        begins = done;
        loaded = loaded_behind;
        whole = whole_next laws.whole u t mid.whole goes;
        files = open_behind;
        there =
            are ground (steps + (k + 1)) u t away
            (record {
              linked = linked;
              at = mid.during;
              goes = goes;
              done = done;
              node = node;
              is = is;
              along = along;
            })
            described;
      }

  -- an element whose law is told
  module _ (e : Element) (element_is : node.element ≡ Some e) (plain : IsPlain nodes number e.kind)
      (needs : Needs) (same : ground.needs ≡ needs) (law : LawAt nodes needs number e case all) where
    same_element : (f : Element) → node.element ≡ Some f → e ≡ f
    same_element f h = let z : Some e ≡ Some f = sym element_is ∙ h in cc

    by_writes : (written_by e.kind ≡ None) ⊎ (node.names_macro ≡ false)
        → option_map_or (is_macro ground.library) (written_by e.kind) false ≡ false
    by_writes (inl none) = ap (λ o. option_map_or (is_macro ground.library) o false) none
    by_writes (inr unnamed_here) =
        unnamed ground.library (written_by e.kind) (named_by e.kind) (named_too e.kind)
        (ap (names_macro ground.library) (sym element_is)
        ∙ sym (linked_here nodes ground number s node linked is at.stands).names ∙ unnamed_here)

    unwritten_here : writes_macro ground.library node.element ≡ false
    unwritten_here = ap (writes_macro ground.library) element_is ∙ by_writes (plain.writes node is)

    unfiled_here : changes_files node.element ≡ false
    unfiled_here = ap changes_files element_is ∙ no_files e.kind plain.told

    module _ (k : ℕ) (u : State) (mid : Midway k u) where
      -- it goes on as it would from the first state
      goes_by : (away : Bool) (t : State) → GoesBy away e s t → (f : Element) → node.element ≡ Some f → IsTold f.kind
          → GoesBy away f u t
      goes_by away t h f reads told =
          subst (λ f. GoesBy away f u t) (same_element f reads)
          (from_frames away e t s.frames u.frames (sym mid.frames) h)

      described_there : (t : State) (cases : List Case)
          → Any (λ made. Describes ground.n made (point_of ((steps + k) + 1) ground.origin t)) cases
          → Any (λ made. Describes ground.n made (point_of (steps + (k + 1)) ground.origin t)) cases
      described_there t cases h =
          let z : (steps + k) + 1 ≡ steps + (k + 1) = omega arith in
          subst (λ j. Any (λ made. Describes ground.n made (point_of j ground.origin t)) cases) z h

      by_goes : (t : State) → step u ≡ Next t → Goes ground.n all e (steps + k) ground.origin s t
          → GoesOn nodes ground steps s spots
      by_goes t goes (inl a) =
          going k u mid t goes unwritten_here unfiled_here false (a.left ∙ at.begins) (goes_by false t a.there)
          (described_there t all.cases.items a.described)
      by_goes t goes (inr away) =
          let a = away.2 in
          going k u mid t goes unwritten_here unfiled_here true (a.left ∙ at.begins)
          (goes_by true t (away.0, away.1, a.there)) (described_there t all.away.items a.described)

    -- the steps at the element, one by one
    comes : (more k total : ℕ) (u : State) → k + more ≡ total → Midway k u
        → Comes more (Goes ground.n all e (steps + total) ground.origin s) s (step u)
        → GoesOn nodes ground steps s spots
    comes zero k total u sum mid h =
        let z : total ≡ k = omega (arith, sum) in
        let next = steps_to (Goes ground.n all e (steps + total) ground.origin s) (step u) h in
        by_goes k u mid next.0 next.1
        (subst (λ j. Goes ground.n all e (steps + j) ground.origin s next.0) z next.2)
    comes (suc more) k total u sum mid h =
        let next =
        steps_to (λ t. IsStill s t × Comes more (Goes ground.n all e (steps + total) ground.origin s) s (step t))
        (step u) h in
        comes more (suc k) total next.0 (omega (arith, sum))
        (midway_next k u mid next.0 next.1 unwritten_here unfiled_here next.2.0) next.2.1

    pub element_goes : GoesOn nodes ground steps s spots
    element_goes =
        let l = law ground v s steps same linked at begins in
        comes l.0 0 l.0 s (omega arith) first l.1

  -- a call, or the end of a text
  module _ (passes : Passes case all) (unfiled : changes_files node.element ≡ false) where
    passed : (t : State) → step s ≡ Next t → t.left ≡ None
        → ((e : Element) → node.element ≡ Some e → IsTold e.kind → ⊥)
        → writes_macro ground.library node.element ≡ false
        → point_of (steps + 1) ground.origin t
        ≡ turned (point_of steps ground.origin s) s.arguments (s.frames.running.loops ++ loops_in s.frames.callers)
        → GoesOn nodes ground steps s spots
    passed t goes done untold unwritten same =
        by (passes ground.n v (point_of steps ground.origin s) begins)
      where
        by : Any (λ made. Describes ground.n made
            (turned (point_of steps ground.origin s) s.arguments (s.frames.running.loops ++ loops_in s.frames.callers)))
            all.cases.items
            ⊎ Any (λ made. Describes ground.n made
            (turned (point_of steps ground.origin s) s.arguments
            (s.frames.running.loops ++ loops_in s.frames.callers))) all.away.items
            → GoesOn nodes ground steps s spots
        by (inl d) =
            going 0 s first t goes unwritten unfiled false done (λ e r told. absurd (untold e r told))
            (subst (λ p. Any (λ made. Describes ground.n made p) all.cases.items) (sym same) d)
        by (inr d) =
            going 0 s first t goes unwritten unfiled true done (λ e r told. absurd (untold e r told))
            (subst (λ p. Any (λ made. Describes ground.n made p) all.away.items) (sym same) d)

  -- M goes to the beginning of its text
  module _ (passes : Passes case all) (e : Element) (c : Call) (element_is : node.element ≡ Some e)
      (kind_is : e.kind ≡ kind.Call c) where
    abbrev called : State
    called = record s { frames = frames_in (text_in c.register s.world.kept) e.next s.frames }

    calls : step s ≡ Next called
    unfolding step reply_of
    calls = ap (outcome_at s) (reads 0 s first ∙ ap Ok element_is) ∙ ap (λ k. outcome_of k e s) kind_is

    untold_call : (f : Element) → node.element ≡ Some f → IsTold f.kind → ⊥
    untold_call f r told =
        let z : Some e ≡ Some f = sym element_is ∙ r in
        let same : e ≡ f = cc in
        subst IsTold (ap (λ (x : Element). x.kind) (sym same) ∙ kind_is) told

    pub call_goes : GoesOn nodes ground steps s spots
    call_goes =
        passed passes (ap changes_files element_is ∙ ap is_of_files kind_is) called calls at.begins untold_call
        (ap (writes_macro ground.library) element_is
        ∙ ap (λ k. option_map_or (is_macro ground.library) (written_by k) false) kind_is)
        refl

  -- the end of a text goes back to the text that waits
  module _ (passes : Passes case all) (element_is : node.element ≡ None) (one : length node.ways ≡ 1) where
    returns_here : return_ways (map start_of s.frames.running.loops) (map spot_of s.frames.callers)
        ≡ Ok (linked_here nodes ground number s node linked is at.stands).targets
    unfolding ways_at
    returns_here =
        subst (λ (p : Position). return_ways p.running.starts p.callers ≡ Ok
        (linked_here nodes ground number s node linked is at.stands).targets)
        (position_here nodes ground number s node linked is at.stands)
        (ap (λ read. ways_at ground.library read node.stand.position) (sym element_is)
        ∙ (linked_here nodes ground number s node linked is at.stands).goes)

    none_open : (loops : List Loop) (callers : List Frame) (targets : List Position)
        → return_ways (map start_of loops) (map spot_of callers) ≡ Ok targets → loops ≡ []
    none_open [] callers targets h = refl
    none_open (loop ∷ outer) callers targets h = absurd (cc)

    some_way : (all : List Stand) (base n : ℕ) (from : Stand) (targets : List Position) (ways : List ℕ)
        → Lead all base n from targets ways
        → length ways ≡ 1 → targets ≡ [] → ⊥
    some_way all base n from [] [] h l e = omega (arith, l)
    some_way all base n from [] (way ∷ ways) h l e = h
    some_way all base n from (target ∷ targets) ways h l e = cc

    waiting : (loops : List Loop) (callers : List Frame) (targets : List Position)
        → return_ways (map start_of loops) (map spot_of callers) ≡ Ok targets → (targets ≡ [] → ⊥)
        → (caller : Frame) × (others : List Frame) × (callers ≡ caller ∷ others)
    waiting [] [] targets h some = absurd (some (sym (ok [] targets h)))
    waiting [] (caller ∷ others) targets h some = (caller, others, refl)
    waiting (loop ∷ outer) callers targets h some = absurd (cc)

    closed : s.frames.running.loops ≡ []
    closed = none_open s.frames.running.loops s.frames.callers _ returns_here

    caller_here : (caller : Frame) × (others : List Frame) × (s.frames.callers ≡ caller ∷ others)
    caller_here =
        let l = linked_here nodes ground number s node linked is at.stands in
        waiting s.frames.running.loops s.frames.callers l.targets returns_here
        (some_way _ _ number node.stand l.targets node.ways l.leads one)

    abbrev returned : State
    returned = record s { frames = record { running = caller_here.0; callers = caller_here.1 } }

    returns : step s ≡ Next returned
    unfolding step
    returns =
        ap (outcome_at s) (reads 0 s first ∙ ap Ok element_is) ∙ ap (λ loops. end_of_text loops s) closed
        ∙ ap (λ callers. end_outcome callers s) caller_here.2

    same_loops : caller_here.0.loops ++ loops_in caller_here.1 ≡ s.frames.running.loops ++ loops_in s.frames.callers
    same_loops = sym (ap (λ loops. loops ++ loops_in s.frames.callers) closed ∙ ap loops_in caller_here.2)

    untold_end : (f : Element) → node.element ≡ Some f → IsTold f.kind → ⊥
    untold_end f r told = let z : None ≡ Some f = sym element_is ∙ r in cc

    pub return_goes : GoesOn nodes ground steps s spots
    return_goes =
        passed passes (ap changes_files element_is) returned returns at.begins untold_end
        (ap (writes_macro ground.library) element_is)
        (ap (λ loops. record (point_of (steps + 1) ground.origin returned) { loops = loops }) same_loops)

  by_read : Passes case all → length node.ways ≡ 1 → (read : Option Element) → node.element ≡ read → IsEndOrCall read
      → GoesOn nodes ground steps s spots
  by_read passes one None e h = return_goes passes e one
  by_read passes one (Some x) e h = by_kind x.kind refl h
    where
      by_kind : (k : Kind) → x.kind ≡ k → IsCall k → GoesOn nodes ground steps s spots
      by_kind (kind.Call c) kind_is h = call_goes passes x c e kind_is
      by_kind k kind_is h = absurd (grind arith)

  pub text_goes : Passes case all → length node.ways ≡ 1 → IsEndOrCall node.element → GoesOn nodes ground steps s spots
  text_goes passes one h = by_read passes one node.element refl h

-- ---- the spots behind a node
module _ (laws : Laws) (nodes : List Node) (number : ℕ) (case : Case) (all : Outcomes) (spots : List NodeCase)
    (asked : AreMet case all) (are : AreSpots nodes number all spots)
    (one : 0 < number) (last : number ≤ length nodes) where
  pub go_on_element : (needs : Needs) (e : Element) → IsRead nodes number (Some e) → IsPlain nodes number e.kind
      → LawAt nodes needs number e case all → GoOn nodes needs number case spots
  go_on_element needs e read plain law ground steps s same linked at d =
      let n = node_of nodes number one last in
      element_goes laws nodes number case all spots asked are ground steps s linked at d.0 d.1 n.0 n.1 e
      (read n.0 n.1) plain needs same law

  pub go_on_text : (needs : Needs) → Passes case all
      → ((node : Node) → numbered nodes number ≡ Some node → length node.ways ≡ 1)
      → IsTextEnd nodes number → GoOn nodes needs number case spots
  go_on_text needs passes ways text ground steps s same linked at d =
      let n = node_of nodes number one last in
      text_goes laws nodes number case all spots asked are ground steps s linked at d.0 d.1 n.0 n.1 passes
      (ways n.0 n.1) (text n.0 n.1)
