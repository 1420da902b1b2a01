-- Every run of a macro whose claims hang together ends in time.
use Rattle.teco_paths.proofs.Prelude.{◌≡◌, ℕ, zero, suc, ◌+◌, ◌≤◌, ◌<◌, ◌^◌, refl, sym, ap, ◌∙◌, subst, arith, length}
use Rattle.teco_paths.proofs.Prelude.{Option, Some, None, option_map, List, [], ◌∷◌, map, All, option_map_or, REGISTERS}
use Rattle.teco_paths.proofs.Prelude.{AreLinked, AreOpen, Library, ArgumentRange, IsAsked, IsLoaded, Needs, Reaches}
use Rattle.teco_paths.proofs.Prelude.{State, Case, point_of, CutState, IsCaseOf, IsEntered, IsEntryCut, Course}
use Rattle.teco_paths.proofs.Prelude.{IsFollowed, Leads, Ground, IsAt, EndsBy, IsCertain, Point, Describes, numbers_of}
use Rattle.teco_paths.proofs.Prelude.{IsWithin, most_with, Node, steps_before}
use Rattle.std.specs.Prelude.{slice_index_or}
use Rattle.teco_law_runs.specs.Given.{call_given, start_pending, BeginsPending, start_given}
use Rattle.teco_law_runs.proofs.Pending.{CallLaws, argument_whole, ends_given, none_given, other_next}
use Rattle.teco_law_runs.proofs.Walking.{one_step, reaches_here, reaches_later, reaches_none}
use Rattle.teco_law_runs.specs.Ready.{IsReady, n_of}
use Rattle.teco_model.specs.Files.{Input}
use Rattle.teco_model.specs.Macros.{macro}
use Rattle.teco_model.specs.Run.{Ends}
use Rattle.teco_model.specs.State.{Kept, World, start}
use Rattle.teco_flow_outcomes.specs.Law.{unread_in}
use Rattle.teco_paths.specs.Entry.{HaveLengths}
use Rattle.teco_paths.specs.Paths as paths
use Rattle.teco_law_changes.specs.Runs.{Begins, ChangesAsTold, EndsAreTold}
use Rattle.teco_law_changes.proofs.Runs.{call_begins}
use Rattle.teco_law_runs.specs.Framing.{LeavesFramed, StepsShift}
use Rattle.teco_law_runs.specs.Loaded.{StepsKeep}
use Rattle.teco_law_runs.proofs.Framing.{run_leaves_framed}
use Rattle.teco_paths.specs.Claims.{AreSaid, IsSaid}
use Rattle.teco_paths.specs.Runs.{Limits}
use Rattle.teco_paths.specs.Sure.{AreLengths, CertainEnd, RunBounds, bounds_of, ground_of, limits_in}
use Rattle.teco_promise.specs.Promise.{EndsInBounds, held_of}
use Rattle.teco_paths.proofs.Ending.{run_ends}
use Rattle.teco_poly.specs.Polynomial.{value}
use Rattle.teco_verifier.specs.expansion.Node.{beginning}

-- ---- the state at the entry
same_unread : (input : Option Input) → unread_in input ≡ length (option_map_or (λ (i : Input). i.unread) input [])
same_unread None = refl
same_unread (Some input) = refl

mapped_some : (library : Library) (r long : ℕ) → slice_index_or (map (option_map length) library) r None ≡ Some long
    → (text : List ℕ) × (macro library r ≡ Some text) × (length text ≡ long)
mapped_some [] r long h = absurd (cc)
mapped_some (None ∷ library) zero long h = absurd (cc)
mapped_some (Some text ∷ library) zero long h = let e : Some (length text) ≡ Some long = h in (text, refl, cc)
mapped_some (x ∷ library) (suc r) long h = mapped_some library r long h

have_lengths : (library : Library) (lengths : List (Option ℕ)) (kept : Kept) → AreLengths lengths library
    → IsLoaded library kept → HaveLengths lengths kept
have_lengths library lengths kept are loaded r long h =
    let m = mapped_some library r long (ap (λ all. slice_index_or all r None) are ∙ h) in
    ap length (loaded.holds r m.0 m.1) ∙ m.2

module _ (course : Course) (argument : Option ArgumentRange) (cut : CutState) (case : Case)
    (is_case : IsCaseOf course.size cut case) (is_entry : IsEntryCut course.lengths argument cut)
    (leads : Leads course 1 case) (said : AreSaid course.cuts 1 case)
    (followed : All (IsFollowed course) course.cuts) (library : Library) (entry : ℕ) (given : Option ℕ) (world : World)
    (long : AreLengths course.lengths library) (linked : AreLinked library entry course.nodes)
    (asked : IsAsked argument given) (ready : IsReady library entry course.size (n_of world) world)
    (opened : AreOpen course.needs world.files) where
  abbrev ground : Ground
  ground = ground_of library entry course.needs world

  abbrev first : State
  first = start_given entry given world

  at : IsAt course.nodes ground 1 first
  at = record {
    stands = record { stand = beginning entry; at = linked.first; position = refl };
    begins = refl;
    loaded = ready.loaded;
    whole = record {
      world = ready.whole;
      arguments = argument_whole argument given asked;
      frames = record { running = ready.call; callers = tt };
    };
    files = opened;
  }

  entered : IsEntered course.lengths argument (n_of world) given (point_of (steps_before argument) ground.origin first)
  entered = record {
    whole = ready.whole.kept;
    loaded = have_lengths library course.lengths world.kept long ready.loaded;
    steps = refl;
    held = let e = same_unread world.files.input in omega (arith, e);
    asked = asked;
    arguments = refl;
    loops = refl;
    pushes = refl;
    typed = refl;
    all = ap (λ k. length world.kept.text + k) (sym (same_unread world.files.input));
  }

  described : Describes (n_of world) case (point_of (steps_before argument) ground.origin first)
  described = (
    numbers_of (point_of (steps_before argument) ground.origin first),
    is_case (n_of world) _ ready.whole.kept ready.small (is_entry (n_of world) given _ entered),
  )

  pub pending_ends : paths.Ends course ground (steps_before argument) first
  pending_ends =
      run_ends course ground (record { linked = linked; needs = refl; room = ready.small }) followed 1
      (steps_before argument) case first leads at described
      (said (n_of world) (point_of (steps_before argument) ground.origin first) described)

pub certain : (course : Course) (argument : Option ArgumentRange) (cut : CutState) (case : Case)
    → IsCaseOf course.size cut case → IsEntryCut course.lengths argument cut
    → Leads course 1 case → AreSaid course.cuts 1 case → All (IsFollowed course) course.cuts
    → IsCertain course.nodes course.lengths argument course.needs (bounds_of course) course.cuts
certain course argument cut case is_case is_entry leads said followed library entry given world long linked asked ready
    opened =
    pending_ends course argument cut case is_case is_entry leads said followed library entry given world long linked
    asked ready opened

-- ---- what that says of the whole run
in_world : (grown : Option ℕ) (w : World) → IsWithin grown (length w.kept.text + unread_in w.files.input)
    → IsWithin grown (held_of w)
in_world grown w within =
    subst (λ unread. IsWithin grown (length w.kept.text + unread)) (same_unread w.files.input) within

-- the laws of runs that it stands on
pub record Laws : Type 0 where
  pub calls : CallLaws
  pub keep : StepsKeep
  pub shift : StepsShift
  pub told : EndsAreTold

module _ (laws : Laws) (nodes : List Node) (library : Library) (needs : Needs) (entry : ℕ) (world : World)
    (linked : AreLinked library entry nodes) (limits : Limits) (Says : ℕ → Point → Type 0)
    (given : Option ℕ) (begins : Begins (start_given entry given world))
    (steps : ℕ)
    (ends : EndsBy nodes (ground_of library entry needs world) limits Says steps (start_given entry given world)) where
  abbrev pending : State
  pending = start_given entry given world

  abbrev Within : World → Type 0
  Within w = IsWithin limits.grown (held_of w)

  within_on : (k : ℕ) (t : State) → k ≤ ends.more → Reaches k pending t → Within t.world
  within_on k t least r = in_world limits.grown t.world (ends.underway k t least r).held.grows

  within_end : Within ends.last.world
  within_end = within_on ends.more ends.last (omega arith) ends.comes

  framed : LeavesFramed nodes world.kept ends.last.world.kept
  framed =
      run_leaves_framed laws.keep laws.shift nodes pending ends.more ends.last
      (λ k u l r. (ends.underway k u l r).reads) (λ k u l r. (ends.underway k u l r).above) ends.comes

  over : Ends pending ends.more ends.last.world
  over = record { last = ends.last; steps = ends.comes; end = ends.ends }

  changed : ChangesAsTold nodes world ends.last.world
  changed =
      laws.told library entry nodes pending ends.more ends.last.world begins
      (record {
        linked = linked;
        begins = refl;
        loaded = λ k u l r none. (ends.underway k u (omega (arith, l)) r).loaded;
      }) over

  -- no argument is given
  pub none_before : steps ≡ 0 → EndsInBounds nodes pending limits.most limits.grown limits.typed
  none_before none = record {
    ends = record {
      steps = ends.more;
      new = ends.last.world;
      few = omega (arith, none, ends.within);
      none = ends.none;
      ends = over;
    };
    on_the_way = within_on;
    at_the_end = within_end;
    types = ends.types;
    framed = framed;
    changed = changed;
  }

-- the digits of the argument stand before the call
module _ (laws : Laws) (nodes : List Node) (library : Library) (needs : Needs) (entry : ℕ) (world : World)
    (linked : AreLinked library entry nodes) (limits : Limits) (Says : ℕ → Point → Type 0)
    (n : ℕ) (named : entry < REGISTERS) (small : n < 2 ^ 31)
    (begins : Begins (start_pending entry n world))
    (ends : EndsBy nodes (ground_of library entry needs world) limits Says 1 (start_pending entry n world)) where
  abbrev called : State
  called = start (call_given entry (Some n)) world

  digits : BeginsPending entry n world
  digits = laws.calls.pending entry n world named small

  abbrev Pending : State → Type 0
  Pending t = IsWithin limits.grown (held_of t.world)

  pending_on : (k : ℕ) (t : State) → k ≤ ends.more → Reaches k (start_pending entry n world) t → Pending t
  pending_on = within_on laws nodes library needs entry world linked limits Says (Some n) begins 1 ends

  held_behind : (k : ℕ) (u : State) → k ≤ ends.more → Reaches k digits.behind u → Pending u
  held_behind k u least came =
      let there =
      other_next _ _ u (laws.calls.runs k digits.behind (start_pending entry n world) digits.alike) came in
      subst (λ (w : World). IsWithin limits.grown (held_of w)) (sym there.alike.world)
      (pending_on k there.state least there.is)

  held_on : (k : ℕ) (u : State) → k ≤ 1 + ends.more → Reaches k called u → Pending u
  held_on zero u least r =
      subst Pending (reaches_none called u r)
      (pending_on 0 (start_pending entry n world) (omega arith) (reaches_here (start_pending entry n world)))
  held_on (suc k) u least r =
      let e : suc k ≡ 1 + k = omega arith in
      held_behind k u (omega (arith, least))
      (reaches_later 1 k called digits.behind u (one_step called digits.behind digits.goes)
      (subst (λ k. Reaches k called u) e r))

  pub digits_before : EndsInBounds nodes called limits.most limits.grown limits.typed
  digits_before = record {
    ends = record {
      steps = 1 + ends.more;
      new = ends.last.world;
      few = ends.within;
      none = none_given laws.calls entry n world named small ends.more ends.none;
      ends = ends_given laws.calls entry n world named small ends.more ends.last.world
          (over laws nodes library needs entry world linked limits Says (Some n) begins 1 ends);
    };
    on_the_way = held_on;
    at_the_end = within_end laws nodes library needs entry world linked limits Says (Some n) begins 1 ends;
    types = ends.types;
    framed = framed laws nodes library needs entry world linked limits Says (Some n) begins 1 ends;
    changed = changed laws nodes library needs entry world linked limits Says (Some n) begins 1 ends;
  }

in_all : (laws : Laws) (nodes : List Node) (library : Library) (needs : Needs) (entry : ℕ) (world : World)
    (linked : AreLinked library entry nodes) (limits : Limits) (Says : ℕ → Point → Type 0)
    (argument : Option ArgumentRange) (given : Option ℕ)
    → entry < REGISTERS → IsAsked argument given → Begins (start_given entry given world)
    → EndsBy nodes (ground_of library entry needs world) limits Says (steps_before argument)
    (start_given entry given world)
    → EndsInBounds nodes (start (call_given entry given) world) limits.most limits.grown limits.typed
in_all laws nodes library needs entry world linked limits Says None None named asked begins ends =
    none_before laws nodes library needs entry world linked limits Says None begins 0 ends refl
in_all laws nodes library needs entry world linked limits Says (Some range) (Some n) named asked begins ends =
    digits_before laws nodes library needs entry world linked limits Says n named asked.small begins ends
in_all laws nodes library needs entry world linked limits Says argument given named asked begins ends =
    absurd (grind arith)

pub certain_end : Laws → CertainEnd
certain_end laws nodes lengths argument needs bounds cuts is library entry given world long linked asked ready opened =
    in_all laws nodes library needs entry world linked (limits_in bounds world) (IsSaid cuts (n_of world))
    argument given
    ready.named asked (call_begins argument entry given world asked ready.whole ready.call)
    (is library entry given world long linked asked ready opened)

-- bounds that have the same values
pub record AreSameBounds (one other : RunBounds) : Type 0 where
  pub commands : (n : ℕ) → value one.commands n ≡ value other.commands n
  pub size : (n : ℕ) → value one.size n ≡ value other.size n
  pub grows : (n before : ℕ) → most_with one.grows n before ≡ most_with other.grows n before
  pub types : (n before : ℕ) → most_with one.types n before ≡ most_with other.types n before

same_limits : (one other : RunBounds) (world : World) → AreSameBounds one other
    → limits_in one world ≡ limits_in other world
same_limits one other world same =
    let n = n_of world in
    rw (
      same.commands n,
      same.size n,
      same.grows n (held_of world),
      same.types n (length world.kept.typed),
    ) refl

pub certain_as : (nodes : List Node) (lengths : List (Option ℕ)) (argument : Option ArgumentRange) (needs : Needs)
    (one other : RunBounds) (cuts : List CutState) → AreSameBounds one other
    → IsCertain nodes lengths argument needs one cuts → IsCertain nodes lengths argument needs other cuts
certain_as nodes lengths argument needs one other cuts same is library entry given world long linked asked ready
    opened =
    subst (λ limits. EndsBy nodes (ground_of library entry needs world) limits (IsSaid cuts (n_of world))
    (steps_before argument) (start_given entry given world)) (same_limits one other world same)
    (is library entry given world long linked asked (record {
      named = ready.named;
      loaded = ready.loaded;
      whole = ready.whole;
      call = ready.call;
      begins = ready.begins;
      small = omega (arith, same.size (n_of world), ready.small);
    }) opened)
