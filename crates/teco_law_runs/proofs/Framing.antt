-- A run keeps what no element of its macro names, and the push-down list of its entry, since each element that it reads
-- is one of a node.
use Rattle.teco_law_runs.proofs.Prelude.{◌≡◌, ℕ, zero, suc, ◌≤◌, List, [], ◌∷◌, ◌++◌, length, length-append, false}
use Rattle.teco_law_runs.proofs.Prelude.{Option, Some, None, refl, sym, ap, ◌∙◌, subst, arith, run, Element, Kind}
use Rattle.teco_law_runs.proofs.Prelude.{Reaches, Kept, Next, State, step}
use Rattle.std.proofs.Common.{◌≢◌}
use Rattle.teco_law_runs.proofs.Runs.{last_step}
use Rattle.teco_law_runs.proofs.Walking.{reaches_none}
use Rattle.teco_law_runs.specs.Framing.{IsFramed, LeavesFramed, LiesBelow, NoneNames, NoneSetsMode, OfNode, OfNone}
use Rattle.teco_law_runs.specs.Framing.{ReadsIn, Shifts, ShiftsByKind, ShiftsByStack, StepsShift, named_in}
use Rattle.teco_law_runs.specs.Framing.{sets_mode_in}
use Rattle.teco_law_runs.specs.Loaded.{KeepsBy, StepsKeep}
use Rattle.teco_model.specs.declared.kind.Kind.TheVariants as kind
use Rattle.teco_model.specs.declared.kind.Stack.{Stack}
use Rattle.teco_model.specs.declared.kind.Stack.TheVariants as stack
use Rattle.teco_model.specs.Registers.{Pair}
use Rattle.teco_verifier.specs.expansion.Node.{Node, numbered}

-- ---- a step
framed_by : (nodes : List Node) (read : Option Element) (old new : Kept)
    → ((r : ℕ) → NoneNames nodes r → named_in read ≢ Some r) → (NoneSetsMode nodes → sets_mode_in read ≡ false)
    → KeepsBy read old new → IsFramed nodes old new
framed_by nodes None old new names sets keeps = record {
  pairs = λ r none. keeps.pairs r (names r none);
  mode = λ none. keeps.mode refl;
}
framed_by nodes (Some e) old new names sets keeps = record {
  pairs = λ r none. keeps.pairs r (names r none);
  mode = λ none. keeps.mode (sets none);
}

step_framed : StepsKeep → (nodes : List Node) (s t : State) → ReadsIn nodes s → step s ≡ Next t
    → IsFramed nodes s.world.kept t.world.kept
step_framed keep nodes s t (OfNode number node at reads) goes =
    framed_by nodes node.element s.world.kept t.world.kept (λ r none. none number node at) (λ none. none number node at)
    (keep s t node.element reads goes)
step_framed keep nodes s t (OfNone reads) goes =
    framed_by nodes None s.world.kept t.world.kept (λ r none e. absurd (cc)) (λ none. refl) (keep s t None reads goes)

-- ---- steps one after another
unchanged : (nodes : List Node) (kept : Kept) → IsFramed nodes kept kept
unchanged nodes kept = record { pairs = λ r none. refl; mode = λ none. refl }

onward : (nodes : List Node) (a b c : Kept) → IsFramed nodes a b → IsFramed nodes b c → IsFramed nodes a c
onward nodes a b c first next = record {
  pairs = λ r none. next.pairs r none ∙ first.pairs r none;
  mode = λ none. next.mode none ∙ first.mode none;
}

pub run_framed : StepsKeep → (nodes : List Node) (first : State) (n : ℕ) (s : State)
    → ((k : ℕ) (u : State) → k ≤ n → Reaches k first u → ReadsIn nodes u) → Reaches n first s
    → IsFramed nodes first.world.kept s.world.kept
unfolding run
run_framed keep nodes first zero s reads came =
    subst (λ (s : State). IsFramed nodes first.world.kept s.world.kept) (reaches_none first s came)
    (unchanged nodes first.world.kept)
run_framed keep nodes first (suc n) s reads came =
    let last = last_step (run n first) s came in
    onward nodes first.world.kept last.last.world.kept s.world.kept
    (run_framed keep nodes first n last.last (λ k u l. reads k u (omega (arith, l))) last.was)
    (step_framed keep nodes last.last s (reads n last.last (omega arith) last.was) last.goes)

-- ---- the push-down list
abbrev stack_of : State → List Pair
stack_of s = s.world.kept.registers.stack

pub nothing_above : (below : List Pair) → LiesBelow below below
nothing_above below = record { above = []; is = refl }

one_above : (below old new : List Pair) (pair : Pair) → new ≡ pair ∷ old → LiesBelow below old → LiesBelow below new
one_above below old new pair is lies = record {
  above = pair ∷ lies.above;
  is = is ∙ ap (λ rest. pair ∷ rest) lies.is;
}

one_off : (below new above : List Pair) (pair : Pair) → pair ∷ new ≡ above ++ below → length below ≤ length new
    → LiesBelow below new
one_off below new [] pair is long = let z : suc (length new) ≡ length below = ap length is in absurd (omega (arith, z))
one_off below new (one ∷ above) pair is long = record { above = above; is = cc }

shifted_by : (below old new : List Pair) (read : Option Element) → Shifts read old new → length below ≤ length new
    → LiesBelow below old → LiesBelow below new
shifted_by below old new None same long lies = subst (LiesBelow below) (sym same) lies
shifted_by below old new (Some e) shifts long lies = by_kind e.kind shifts
  where
    by_stack : (k : Stack) → ShiftsByStack k old new → LiesBelow below new
    by_stack (stack.Push r) h = one_above below old new h.0 h.1 lies
    by_stack (stack.Pop r) h = one_off below new lies.above h.0 (sym h.1 ∙ lies.is) long

    by_kind : (k : Kind) → ShiftsByKind k old new → LiesBelow below new
    by_kind (kind.Stack k) h = by_stack k h
    by_kind (kind.Flow k) h = subst (LiesBelow below) (sym h) lies
    by_kind (kind.Argument k) h = subst (LiesBelow below) (sym h) lies
    by_kind (kind.Value k) h = subst (LiesBelow below) (sym h) lies
    by_kind (kind.Query k) h = subst (LiesBelow below) (sym h) lies
    by_kind (kind.Command k) h = subst (LiesBelow below) (sym h) lies
    by_kind (kind.Page k) h = subst (LiesBelow below) (sym h) lies
    by_kind (kind.Call k) h = subst (LiesBelow below) (sym h) lies
    by_kind (kind.Search k) h = subst (LiesBelow below) (sym h) lies
    by_kind (kind.File k) h = subst (LiesBelow below) (sym h) lies

step_below : StepsShift → (nodes : List Node) (below : List Pair) (s t : State) → ReadsIn nodes s → step s ≡ Next t
    → length below ≤ length (stack_of t) → LiesBelow below (stack_of s) → LiesBelow below (stack_of t)
step_below shift nodes below s t (OfNode number node at reads) goes =
    shifted_by below (stack_of s) (stack_of t) node.element (shift s t node.element reads goes)
step_below shift nodes below s t (OfNone reads) goes =
    shifted_by below (stack_of s) (stack_of t) None (shift s t None reads goes)

-- where no list on the way is shorter than the first
pub run_below : StepsShift → (nodes : List Node) (first : State) (n : ℕ) (s : State)
    → ((k : ℕ) (u : State) → k ≤ n → Reaches k first u → ReadsIn nodes u)
    → ((k : ℕ) (u : State) → k ≤ n → Reaches k first u → length (stack_of first) ≤ length (stack_of u))
    → Reaches n first s → LiesBelow (stack_of first) (stack_of s)
unfolding run
run_below shift nodes first zero s reads long came =
    subst (λ (s : State). LiesBelow (stack_of first) (stack_of s)) (reaches_none first s came)
    (nothing_above (stack_of first))
run_below shift nodes first (suc n) s reads long came =
    let last = last_step (run n first) s came in
    step_below shift nodes (stack_of first) last.last s (reads n last.last (omega arith) last.was) last.goes
    (long (suc n) s (omega arith) came)
    (run_below shift nodes first n last.last (λ k u l. reads k u (omega (arith, l)))
    (λ k u l. long k u (omega (arith, l))) last.was)

pub run_leaves_framed : StepsKeep → StepsShift → (nodes : List Node) (first : State) (n : ℕ) (s : State)
    → ((k : ℕ) (u : State) → k ≤ n → Reaches k first u → ReadsIn nodes u)
    → ((k : ℕ) (u : State) → k ≤ n → Reaches k first u → length (stack_of first) ≤ length (stack_of u))
    → Reaches n first s → LeavesFramed nodes first.world.kept s.world.kept
run_leaves_framed keep shift nodes first n s reads long came = record {
  framed = run_framed keep nodes first n s reads came;
  below = run_below shift nodes first n s reads long came;
}
