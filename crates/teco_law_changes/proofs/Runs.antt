-- A run changes the text by the changes of its nodes' elements, step by step.
use Rattle.std.proofs.Common.{◌≡◌, ℕ, zero, suc, List, refl, sym, ap, ◌∙◌, subst, arith, Option, Some}
use Rattle.std.proofs.Common.{None}
use Rattle.std.proofs.Common.{Result, Ok, Err, Bool, true, false, is_some}
use Rattle.teco_base.specs.declared.code.Code.{Code}
use Rattle.std.specs.Prelude.{◌≢◌, ◌<◌}
use Rattle.std.specs.Option.{option_map_or}
use Rattle.teco_changes.specs.Changes.{Changes}
use Rattle.teco_changes.specs.Arguments.{IsSo, behind}
use Rattle.teco_changes.specs.Nearby.{IsNear, Nearby, Unreached, near_behind}
use Rattle.teco_changes.specs.Worlds.{IsChangedBy, text_of}
use Rattle.teco_changes.specs.declared.argument.NumericArgument.{NumericArgument}
use Rattle.teco_changes.specs.declared.argument.NumericArgument.TheVariants as known
use Rattle.teco_changes.specs.declared.change.Change.{Change}
use Rattle.teco_changes.proofs.Closure.{changes_are_among, changes_follow}
use Rattle.teco_changes.proofs.Elements.{no_change}
use Rattle.teco_law_changes.specs.Runs.{Begins, EndsAreTold, IsAmong, IsOfMacro, RunsAreTold, Tells, colon_of}
use Rattle.teco_law_changes.specs.Steps.{HaveNoFirst, IsKnown, IsKnownNear, IsUnderway, Reads, colon_in, is_ranged}
use Rattle.teco_law_changes.specs.Steps.{told_with}
use Rattle.teco_law_changes.proofs.Firsts.{steps_give_no_first}
use Rattle.teco_law_changes.proofs.Near.{steps_leave_near}
use Rattle.teco_law_changes.proofs.Onward.{steps_go_on}
use Rattle.teco_law_changes.proofs.Numbers.{steps_leave_arguments}
use Rattle.teco_law_changes.proofs.Sharper.{steps_are_told_with}
use Rattle.teco_law_runs.specs.Given.{start_given}
use Rattle.teco_law_runs.specs.Linked.{AreLinked}
use Rattle.teco_law_runs.specs.Loaded.{StaysLoaded}
use Rattle.teco_law_runs.specs.Run.{MovesFrom, Stayed, Went}
use Rattle.teco_law_runs.specs.Steps.{IsLeftAt, is_long}
use Rattle.teco_law_runs.specs.Was.{StepWas}
use Rattle.teco_law_runs.proofs.Keeping.{end_stays}
use Rattle.teco_law_runs.proofs.Pending.{argument_whole}
use Rattle.teco_law_runs.proofs.Runs.{AtNode, ends, is_node, last_step, node_or_end, runs_end, steps_go_along_nodes}
use Rattle.teco_law_runs.proofs.Walking.{reaches_none}
use Rattle.teco_model.proofs.Ahead.{element_at-again}
use Rattle.teco_model.proofs.Chains.{bound, ok}
use Rattle.teco_model.proofs.upkeep.Replies.{step_whole}
use Rattle.teco_model.specs.Element.{Element, blank_end}
unfoldable use Rattle.teco_model.specs.Element.{element_at}
unfoldable use Rattle.teco_model.specs.Run.{run}
use Rattle.teco_model.specs.Run.{Reaches}
use Rattle.teco_model.specs.State.{End, Kept, Next, Outcome, State, World}
use Rattle.teco_model.specs.Step.{step}
use Rattle.teco_model.specs.declared.arguments.Level.{Level}
use Rattle.teco_model.specs.declared.kind.Kind.{Kind}
use Rattle.teco_model.specs.declared.kind.Kind.TheVariants as kind
use Rattle.teco_model.specs.Macros.{ArgumentRange, IsAsked, IsLoaded, Library, call_of, is_macro}
use Rattle.teco_model.specs.laws.Whole.{AreBytes, IsWholeOutcome, IsWholeState, IsWholeWorld}
use Rattle.teco_verifier.specs.expansion.Names.{writes_macro, written_by}
use Rattle.teco_verifier.specs.expansion.Node.{Node, Stand, beginning, numbered, over, stand_at, stands}
use Rattle.teco_verifier.specs.facts.Argument.{arguments_given}
use Rattle.teco_verifier.specs.expansion.Position.{Position, position_of, position_of_frames}
use Rattle.teco_verifier.specs.expansion.Refusal.{◌>>=◌}
use Rattle.teco_verifier.specs.expansion.Ways.{as_fault, pattern_parts, sound}
unfoldable use Rattle.teco_verifier.specs.expansion.Ways.{read_at}

-- ---- what is read at a position is the element there
read_is : (r : Result (Option Element) Code) (read : Option Element)
    → (as_fault r >>= (λ read. sound read)) ≡ Ok read → r ≡ Ok read
read_is (Ok None) read h = ap Ok (ok None read h)
read_is (Ok (Some e)) read h =
    let b = bound (as_fault (pattern_parts e.kind e.text)) _ read h in ap Ok (ok (Some e) read b.gives)
read_is (Err c) read h = absurd (cc)

as_element : (s : State) (read : Option Element) → read_at (position_of s) ≡ Ok read → Reads s read
unfolding read_at
as_element s read h =
    let frame = s.frames.running in
    sym (element_at-again frame.text frame.place)
    ∙ read_is (element_at frame.text (blank_end frame.text frame.place)) read h

among : (told : Option (List Change)) (changes : List Change) → IsAmong told changes → (old new : List ℕ)
    → IsChangedBy told old new → Changes changes old new
among None changes is old new h = absurd is
among (Some some) changes is old new h = changes_are_among some changes old new is h

nothing_left : (read : Option Element) (left : Option ℕ) → left ≡ None → IsLeftAt read left
nothing_left None left h = subst (IsLeftAt None) (sym h) tt
nothing_left (Some e) left h = subst (IsLeftAt (Some e)) (sym h) tt

same_node : (a b : Node) (o : Option Node) → o ≡ Some a → o ≡ Some b → a ≡ b
same_node a b o is other = let same : ◌≡◌ {A = Option Node} (Some a) (Some b) = sym is ∙ other in cc

no_more : {P : Type 0} (left : Option ℕ) (n : ℕ) → left ≡ None → left ≡ Some n → P
no_more left n none some = let z : Path (Option ℕ) None (Some n) = sym none ∙ some in absurd cc

-- an element of several steps writes no text of the library
long_writes_none : (k : Kind) → is_long k ≡ true → written_by k ≡ None
long_writes_none (kind.Page p) long = refl
long_writes_none (kind.Search x) long = refl
long_writes_none (kind.Argument a) long = absurd cc
long_writes_none (kind.Value v) long = absurd cc
long_writes_none (kind.Query q) long = absurd cc
long_writes_none (kind.Stack k) long = absurd cc
long_writes_none (kind.Call c) long = absurd cc
long_writes_none (kind.Flow f) long = absurd cc
long_writes_none (kind.Command c) long = absurd cc
long_writes_none (kind.File f) long = absurd cc

left_writes_none : (library : Library) (read : Option Element) (left : Option ℕ) (n : ℕ) → left ≡ Some n
    → IsLeftAt read left → writes_macro library read ≡ false
left_writes_none library None left n some is = absurd (subst (IsLeftAt None) some is)
left_writes_none library (Some e) left n some is =
    ap (λ wrote. option_map_or (is_macro library) wrote false)
    (long_writes_none e.kind (subst (IsLeftAt (Some e)) some is))

-- where a state stands among the nodes, and that work is left at an element of several steps alone
record Stands (all : List Stand) (number : ℕ) (s : State) : Type 0 where
  stand : Stand
  at : numbered all number ≡ Some stand
  position : stand.position ≡ position_of s
  left : (read : Option Element) → read_at stand.position ≡ Ok read → IsLeftAt read s.left

reached_by : (near : Nearby) (level : Level) (kept : Kept) → IsNear near level kept → near ≢ Unreached
reached_by near level kept is none = subst (λ n. IsNear n level kept) none is

-- ---- a step
module _ (stays : StaysLoaded) (library : Library) (entry : ℕ) (nodes : List Node) (changes : List Change)
    (tells : Tells nodes changes) (linked : AreLinked library entry nodes) (first : State) where
  record Along (s : State) : Type 0 where
    whole : IsWholeState s
    under : IsUnderway s
    arguments : tells.ranged ≡ false → HaveNoFirst s.arguments
    changed : Changes changes (text_of first.world) (text_of s.world)
    number : ℕ
    there : Stands (stands nodes entry) number s
    loaded : (n : ℕ) → s.left ≡ Some n → IsLoaded library s.world.kept
    known : (node : Node) → numbered nodes number ≡ Some node → IsKnown node.element (tells.before number) s
    near : IsKnownNear (tells.near number) s

  ranged_said : (s : State) → (tells.ranged ≡ false → HaveNoFirst s.arguments) → (said : Bool) → tells.ranged ≡ said
      → is_ranged s ≡ true → said ≡ true
  ranged_said s none true is ranged = refl
  ranged_said s none false is ranged =
      let e : Path Bool (is_some s.arguments.level.first) false = ap is_some (none is).level in
      absurd (let z : Path Bool true false = sym ranged ∙ e in cc)

  -- from a node
  module _ (s t : State) (along : Along s) (k : ℕ) (node : Node) (at : numbered nodes k ≡ Some node)
      (stand : node.stand.position ≡ position_of s) (left : IsLeftAt node.element s.left)
      (known : IsKnown node.element (tells.before k) s) (near : IsKnownNear (tells.near k) s) (goes : step s ≡ Next t)
      (loaded : IsLoaded library s.world.kept) where
    here : read_at node.stand.position ≡ Ok node.element
    here = (linked.each k node at).reads

    read_here : read_at (position_of s) ≡ Ok node.element
    read_here = ap read_at (sym stand) ∙ here

    reads : Reads s node.element
    reads = as_element s node.element read_here

    behind_is : IsSo (behind node.element (tells.before k)) t.arguments.level
    behind_is = steps_leave_arguments s t node.element (tells.before k) left known reads goes

    told : Changes changes (text_of s.world) (text_of t.world)
    told =
        among (told_with node.element tells.ranged (tells.before k) (tells.near k)) changes (tells.each k node at)
        (text_of s.world) (text_of t.world)
        (steps_are_told_with s t node.element tells.ranged (tells.before k) (tells.near k) along.whole along.under
        (ranged_said s along.arguments tells.ranged refl) left known near reads goes)

    near_behind_is : (way : ℕ) → StepWas node.element way s t
        → IsNear (near_behind node.element (colon_of node) way (tells.before k) (tells.near k)) t.arguments.level
        t.world.kept
    near_behind_is way was =
        subst (λ text. IsNear
        (near_behind node.element (colon_in node.element text) way (tells.before k) (tells.near k))
        t.arguments.level t.world.kept) (ap (λ (p : Position). p.running.text) (sym stand))
        (steps_leave_near s t node.element way (tells.before k) (tells.near k) along.whole along.under left known
        near reads was)

    comes : (number : ℕ) → Stands (stands nodes entry) number t
        → ((n : ℕ) → t.left ≡ Some n → IsLoaded library t.world.kept)
        → ((node : Node) → numbered nodes number ≡ Some node → IsKnown node.element (tells.before number) t)
        → IsKnownNear (tells.near number) t → Along t
    comes number there loaded known near = record {
      whole = subst IsWholeOutcome goes (step_whole s along.whole);
      under = steps_go_on s t node.element along.under reads goes;
      arguments = λ none.
          steps_give_no_first s t node.element (tells.none none k node at) (along.arguments none) reads goes;
      changed = changes_follow changes (text_of first.world) (text_of s.world) (text_of t.world) along.changed told;
      number = number;
      there = there;
      loaded = loaded;
      known = known;
      near = near;
    }

    moves : MovesFrom (stands nodes entry) k node s t → numbered (stands nodes entry) k ≡ Some node.stand → Along t
    moves (Went went) standing = comes went.target (record {
      stand = stand_at k node.stand (position_of t);
      at = went.there.at;
      position = refl;
      left = λ read is. nothing_left read t.left went.done;
    }) (λ n more. no_more t.left n went.done more) (λ other there. record {
      begins = λ none. tells.known.goes k node went.way went.target at went.taken t.arguments.level behind_is;
      goes_on = λ n more. no_more t.left n went.done more;
    }) (
        let there = tells.nearby.goes k node went.way went.target at went.taken t.arguments.level t.world.kept
        (near_behind_is went.way went.was) in
        record {
          reached = reached_by (tells.near went.target) t.arguments.level t.world.kept there;
          begins = λ none. there;
        }
        )
    moves (Stayed still) standing = comes k (record {
      stand = node.stand;
      at = standing;
      position = stand ∙ ap position_of_frames (sym still.same);
      left = λ read is. subst (λ read. IsLeftAt read t.left) (ok node.element read (sym here ∙ is)) still.long;
    }) (λ n more. stays library s t node.element loaded
        (left_writes_none library node.element t.left still.n still.left still.long) read_here goes)
        (λ other there. record {
          begins = λ none. no_more t.left still.n none still.left;
          goes_on = λ n more. subst (λ (node : Node). IsSo (behind node.element (tells.before k)) t.arguments.level)
              (same_node node other (numbered nodes k) at there) behind_is;
        }) (record {
          reached = near.reached;
          begins = λ none. no_more t.left still.n none still.left;
        })

  at_node : (s t : State) (along : Along s) (k : ℕ) → along.number ≡ suc k
      → AtNode nodes (over entry) along.there.stand k → step s ≡ Next t → IsLoaded library s.world.kept → Along t
  at_node s t along k is (is_node node at same) goes loaded =
      let stand = ap (λ (stand : Stand). stand.position) same ∙ along.there.position in
      let left = along.there.left node.element
      (ap (λ (stand : Stand). read_at stand.position) (sym same) ∙ (linked.each (suc k) node at).reads) in
      moves s t along (suc k) node at stand left
      (subst (λ number. (node : Node) → numbered nodes number ≡ Some node
      → IsKnown node.element (tells.before number) s) is along.known node at)
      (subst (λ number. IsKnownNear (tells.near number) s) is along.near) goes loaded
      (steps_go_along_nodes library entry nodes (suc k) node s t linked at stand left loaded goes)
      (ap (numbered (stands nodes entry)) (sym is) ∙ along.there.at ∙ ap Some (sym same))
  at_node s t along k is (ends same) goes loaded =
      let over_there = ap (λ (stand : Stand). stand.position) (sym same) ∙ along.there.position in
      let z : Path Outcome (End s.world) (Next t) = sym (runs_end entry s over_there) ∙ goes in absurd cc

  next_along : (s t : State) (along : Along s) (number : ℕ) → along.number ≡ number → step s ≡ Next t
      → IsLoaded library s.world.kept → Along t
  next_along s t along zero is goes loaded =
      let z : Path (Option Stand) None (Some along.there.stand) =
      ap (numbered (stands nodes entry)) (sym is) ∙ along.there.at in absurd cc
  next_along s t along (suc k) is goes loaded =
      at_node s t along k is (node_or_end nodes (over entry) along.there.stand k
      (ap (numbered (stands nodes entry)) (sym is) ∙ along.there.at)) goes loaded

  -- ---- steps one after another
  begins : Begins first → position_of first ≡ (beginning entry).position → Along first
  begins b stand = record {
    whole = b.whole;
    under = λ n left. no_more first.left n b.done left;
    arguments = λ none. b.arguments;
    changed = no_change changes (text_of first.world) (text_of first.world) refl;
    number = 1;
    there = record {
      stand = beginning entry;
      at = linked.first;
      position = sym stand;
      left = λ read is. nothing_left read first.left b.done;
    };
    loaded = λ n left. no_more first.left n b.done left;
    known = λ node at. record {
      begins = λ none. tells.known.first first.arguments.level b.complete;
      goes_on = λ n left. no_more first.left n b.done left;
    };
    near =
        let there = tells.nearby.first first.arguments.level first.world.kept (tt, tt, (tt, tt)) in
        record {
          reached = reached_by (tells.near 1) first.arguments.level first.world.kept there;
          begins = λ none. there;
        };
  }

  loaded_there : (s : State) → Along s → (s.left ≡ None → IsLoaded library s.world.kept) → IsLoaded library s.world.kept
  loaded_there s along begins = by s.left refl
    where
      by : (left : Option ℕ) → s.left ≡ left → IsLoaded library s.world.kept
      by None none = begins none
      by (Some n) left = along.loaded n left

  goes_along : Begins first → position_of first ≡ (beginning entry).position → (n : ℕ) (s : State)
      → ((k : ℕ) (u : State) → k < n → Reaches k first u → u.left ≡ None → IsLoaded library u.world.kept)
      → Reaches n first s → Along s
  unfolding run
  goes_along b stand zero s loaded came = subst Along (reaches_none first s came) (begins b stand)
  goes_along b stand (suc n) s loaded came =
      let last = last_step (run n first) s came in
      let along = goes_along b stand n last.last (λ k u l. loaded k u (omega (arith, l))) last.was in
      next_along last.last s along along.number refl last.goes
      (loaded_there last.last along (loaded n last.last (omega arith) last.was))

run_is_told : StaysLoaded → (library : Library) (entry : ℕ) (nodes : List Node) (changes : List Change)
    → Tells nodes changes
    → (first : State) → Begins first → (n : ℕ) (s : State) → IsOfMacro library entry nodes first n → Reaches n first s
    → Changes changes (text_of first.world) (text_of s.world)
run_is_told stays library entry nodes changes tells first b n s of came =
    (goes_along stays library entry nodes changes tells of.linked first b of.begins n s of.loaded came).changed

pub runs_are_told : StaysLoaded → RunsAreTold
runs_are_told stays library entry nodes first n s b of came changes tells =
    run_is_told stays library entry nodes changes tells first b n s of came

pub ends_are_told : StaysLoaded → EndsAreTold
ends_are_told stays library entry nodes first n new b of over_it changes tells =
    subst (λ world. Changes changes (text_of first.world) (text_of world)) (end_stays over_it.last new over_it.end)
    (run_is_told stays library entry nodes changes tells first b n over_it.last of over_it.steps)

-- ---- where a call begins
none_first : (given : Option ℕ) → HaveNoFirst (arguments_given given)
none_first None = record { level = refl; outer = tt }
none_first (Some n) = record { level = refl; outer = tt }

none_waits : (given : Option ℕ) → IsSo known.Complete (arguments_given given).level
none_waits None = refl
none_waits (Some n) = refl

pub call_begins : (argument : Option ArgumentRange) (entry : ℕ) (given : Option ℕ) (world : World)
    → IsAsked argument given → IsWholeWorld world → AreBytes (call_of entry)
    → Begins (start_given entry given world)
call_begins argument entry given world asked whole call = record {
  whole = record {
    world = whole;
    arguments = argument_whole argument given asked;
    frames = record { running = call; callers = tt };
  };
  done = refl;
  arguments = none_first given;
  complete = none_waits given;
}
