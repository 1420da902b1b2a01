-- Tests, iterations and tags: the edge that the machine goes along.
use Rattle.teco_law_facts.proofs.Prelude.{◌≡◌, ℕ, zero, suc, ◌+◌, ◌≤◌, arith, refl, sym, subst, ℤ, pos, negsuc, ◌+ℤ◌}
use Rattle.teco_law_facts.proofs.Prelude.{◌≤ℤ◌, int_le, List, [], ◌∷◌, drop, Bool, true, false, cond, ◌&&◌, Option}
use Rattle.teco_law_facts.proofs.Prelude.{Some, None, option_map, Result, Ok, Err, IfOk, ◌*ℤ◌, ints, Code, holds, Kept}
use Rattle.teco_law_facts.proofs.Prelude.{Level, Taken, Test, Polynomial, value, number, Pair, KnownLevel, ◌>>=◌}
use Rattle.teco_law_facts.proofs.Prelude.{positive, Run, Holds, run_behind, run_in_turn, IsWhole, Answers, Describes}
use Rattle.teco_law_facts.proofs.Prelude.{AreEach, HasFallen, IsLevel, IsTaken, IsOptional, ArePending, fore_of}
use Rattle.teco_law_facts.proofs.Prelude.{back_of, Position, Answer, Facts, Iteration, sum_of, at_position}
use Rattle.teco_law_facts.proofs.Prelude.{without_arguments, Edges, facts_taken, leaving, entering, none_pending}
use Rattle.teco_law_facts.proofs.Prelude.{IsTold, Tells, IsReached, number_needed, LeavingOr, EntersOr, EndsTurn}
use Rattle.teco_law_facts.proofs.Prelude.{IsValue, IsWithin, interval_of, Numbers, Positive, NotPositive}
use Rattle.teco_law_facts.proofs.Prelude.{Takes, position_by, way, RefusalReason, Value}
use Rattle.teco_model.specs.Arguments as model
use Rattle.teco_model.specs.Effect as effect
use Rattle.teco_model.specs.Flow.{leaves}
use Rattle.teco_model.specs.declared.kind.Test.TheVariants as test
use Rattle.teco_law_facts.proofs.Numbers.{AreDistances, interval_of_in, scaled_le}
use Rattle.teco_law_facts.proofs.Pending.{taken_covers, empty_is, nothing_is, needed_covers}
use Rattle.teco_law_facts.proofs.Near.{distances}
use Rattle.teco_law_facts.proofs.Shapes.{value-sum_of, value-number}
use Rattle.teco_law_facts.proofs.Steps.{by_kind, Covers}
use Rattle.teco_law_facts.proofs.Transfers.{without_answer}
use Rattle.teco_law_facts.proofs.Ways.{IsOn, told_on, within_may}
use Rattle.teco_verifier.specs.facts.Arguments as known
use Rattle.teco_verifier.specs.facts.Flows.{needed_taken, begun, iteration}
use Rattle.teco_verifier.specs.facts.Flows.{leaving_numbers, turns_of, bound_by, bound_of, without_value, turn_end}
use Rattle.teco_verifier.specs.facts.Joins.{is_empty}
use Rattle.teco_law_facts.specs.SoundFlow.{TestsAreSound, LeavesAreSound}
use Rattle.teco_law_facts.specs.SoundFlow.{IterationsAreSound, AreTurns, TurnsAreSound}
use Rattle.teco_law_facts.specs.SoundFlow.{TurnEndsAreSound, TagsAreSound, OthersAreSound}
use Rattle.teco_verifier.specs.facts.Transfer as transfers
use Rattle.teco_verifier.specs.facts.Ways.{holding, other}
use Rattle.teco_verifier.specs.declared.refusal.RefusalReason.TheVariants as refusal

-- ---- steps
pub tells_then : {X Y A : Type 0} (P : X → Y → Type 0) (Q : A → Y → Type 0) (r : Result X RefusalReason)
    (c : Result Y Code)
    (f : X → Result A RefusalReason) → Covers P r c → ((x : X) (y : Y) → P x y → Tells Q (f x) (Ok y))
    → Tells Q (r >>= f) c
tells_then P Q (Ok x) (Ok y) f h k = k x y h
tells_then P Q (Ok x) (Err e) f h k = absurd h
tells_then P Q (Err e) c f h k = tt

passes : {X Y A : Type 0} (Q : A → Y → Type 0) (r : Result X RefusalReason) (c : Result Y Code) (f : X
    → Result A RefusalReason)
    → ((x : X) → Tells Q (f x) c) → Tells Q (r >>= f) c
passes Q (Ok x) c f k = k x
passes Q (Err e) c f k = tt

passes_with : {X Y A : Type 0} (P : X → Type 0) (Q : A → Y → Type 0) (r : Result X RefusalReason) (c : Result Y Code)
    (f : X
    → Result A RefusalReason) → IfOk r P → ((x : X) → P x → Tells Q (f x) c) → Tells Q (r >>= f) c
passes_with P Q (Ok x) c f h k = k x h
passes_with P Q (Err e) c f h k = tt

weaker : {X Y : Type 0} (P Q : X → Y → Type 0) (r : Result X RefusalReason) (c : Result Y Code)
    → ((x : X) (y : Y) → P x y → Q x y) → Covers P r c → Covers Q r c
weaker P Q (Ok x) (Ok y) k h = k x y h
weaker P Q (Ok x) (Err e) k h = h
weaker P Q (Err e) c k h = tt

always : {X Y : Type 0} (P : X → Y → Type 0) (r : Result X RefusalReason) (y : Y) → ((x : X) → P x y)
    → Covers P r (Ok y)
always P (Ok x) y h = h x
always P (Err e) y h = tt

pub each_dropped : {X Y : Type 0} (P : X → Y → Type 0) (count : ℕ) (xs : List X) (ys : List Y) → AreEach P xs ys
    → AreEach P (drop count xs) (drop count ys)
each_dropped P zero xs ys h = h
each_dropped P (suc count) [] [] h = tt
each_dropped P (suc count) (x ∷ xs) (y ∷ ys) h = each_dropped P count xs ys h.1
each_dropped P count xs ys h = absurd (grind arith)

-- what leaves iterations drops what is known of them
pub leaves_described : (run : Run) (count : ℕ) (next : Facts) (unread : ℕ) (kept : Kept) → Holds run next unread kept
    → Describes (run_behind count run) (leaving count next) unread kept model.no_arguments
leaves_described run count next unread kept h = record {
  state = record {
    position = record {
      begin = h.position.begin;
      end = h.position.end;
      fallen = each_dropped (HasFallen (fore_of kept + unread)) count next.position.falls run.turns h.position.fallen;
      ahead = h.position.ahead;
      saved = h.position.saved;
    };
    held = h.held;
    registers = record { numbers = h.registers.numbers; texts = h.registers.texts };
    pushed = h.pushed;
  };
  pending = record { level = record { first = tt; value = tt; operator = refl }; outer = tt };
  answers = tt;
}

-- the number of a level, as ; and " need it
abbrev number_in : Level → Result ℤ Code
number_in level = model.arguments_of level >>= λ taken. effect.needed_value taken.value

told_by : (run : Run) (o : Option Answer) (fore back unread : ℕ) (pairs : List Pair) (level : Level)
    (r : Result Value RefusalReason) → Answers run o fore back unread pairs level
    → Covers (IsValue fore back) r (number_in level)
    → Covers (λ s v. IsTold run o s fore back unread pairs v) r (number_in level)
told_by run None fore back unread pairs level r a c = weaker (IsValue fore back) _ r (number_in level) (λ s v i. i.is) c
told_by run (Some answer) fore back unread pairs level r (v, e, i) c =
    subst (λ level. Covers (λ (s : Value) v. IsTold run (Some answer) s fore back unread pairs v) r (number_in level))
    (sym e) (always _ r v (λ s. i))

module _ (run : Run) (facts : Facts) (unread : ℕ) (kept : Kept) (arguments : model.Arguments) (whole : IsWhole kept)
    (d : Describes run facts unread kept arguments) where
  now : AreDistances facts.position.distances (fore_of kept) (back_of kept)
  now = distances run facts unread kept whole d.state

  pub taking_is : Covers (IsTaken (fore_of kept) (back_of kept)) (known.arguments_of facts.arguments.level)
      (model.arguments_of arguments.level)
  taking_is = taken_covers facts.position.distances (fore_of kept) (back_of kept) now facts.arguments.level
      arguments.level d.pending.level

  number_told : Covers (λ s v. IsTold run facts.answer s (fore_of kept) (back_of kept) unread kept.registers.pairs v)
      (needed_taken facts) (number_in arguments.level)
  number_told = told_by run facts.answer (fore_of kept) (back_of kept) unread kept.registers.pairs arguments.level _
      d.answers (needed_covers facts.position.distances (fore_of kept) (back_of kept) now facts.arguments.level
      arguments.level d.pending.level)

  pub taken_are : ArePending (fore_of kept) (back_of kept) (facts_taken facts).arguments
      (model.levels_after_taking arguments)
  taken_are = record {
    level = empty_is facts.position.distances (fore_of kept) (back_of kept) now;
    outer = d.pending.outer;
  }

  -- ---- ways
  reached : (o : Option Position) → IsOn run (fore_of kept) (back_of kept) unread kept.registers.pairs o
      → IsReached run (option_map (λ p. at_position p (facts_taken facts)) o) unread kept
      (model.levels_after_taking arguments)
  reached None i = i
  reached (Some p) i = let h = d.state in
      record {
        state = record { position = i; held = h.held; registers = h.registers; pushed = h.pushed };
        pending = taken_are;
        answers = tt;
      }

  iterations_left : (count : ℕ)
      → Describes (run_behind count run) (leaving count (transfers.without_answer facts)) unread kept model.no_arguments
  iterations_left count = let h = d.state in
      leaves_described run count (transfers.without_answer facts) unread kept (record {
        position = h.position;
        held = h.held;
        registers = record { numbers = h.registers.numbers; texts = h.registers.texts };
        pushed = h.pushed;
      })

  left_behind : (o : Option Position) → IsOn run (fore_of kept) (back_of kept) unread kept.registers.pairs o
      → IsReached (run_behind 1 run) (option_map (leaving 1) (option_map (λ p. at_position p (facts_taken facts)) o))
      unread kept model.no_arguments
  left_behind None i = i
  left_behind (Some p) i = let h = d.state in
      leaves_described run 1 (at_position p (facts_taken facts)) unread kept
      (record { position = i; held = h.held; registers = h.registers; pushed = h.pushed })

  told : (n : Numbers) (s : Value) (v : ℤ)
      → IsTold run facts.answer s (fore_of kept) (back_of kept) unread kept.registers.pairs v → Takes n v
      → IsOn run (fore_of kept) (back_of kept) unread kept.registers.pairs (position_by n facts.answer s facts.position)
  told n s v i t = told_on run facts unread kept n facts.answer s v whole d.state i t

  -- a test
  holding_takes : (t : Test) (v : ℤ) (b : Bool) → holds t v ≡ b → Takes (cond b (holding t) (other (holding t))) v
  holding_takes test.Zero (pos zero) true e = refl
  holding_takes test.Zero (pos (suc n)) false e = λ z. omega (arith, ints)
  holding_takes test.Zero (negsuc n) false e = λ z. cc
  holding_takes test.NotZero (pos (suc n)) true e = λ z. omega (arith, ints)
  holding_takes test.NotZero (negsuc n) true e = λ z. cc
  holding_takes test.NotZero (pos zero) false e = refl
  holding_takes test.Negative (negsuc n) true e = omega (arith, ints)
  holding_takes test.Negative (pos n) false e = omega (arith, ints)
  holding_takes test.Positive (pos (suc n)) true e = omega (arith, ints)
  holding_takes test.Positive (pos zero) false e = omega (arith, ints)
  holding_takes test.Positive (negsuc n) false e = omega (arith, ints)
  holding_takes test.Letter v true e = tt
  holding_takes test.Letter v false e = tt
  holding_takes test.Symbol v true e = tt
  holding_takes test.Symbol v false e = tt
  holding_takes test.Digit v true e = tt
  holding_takes test.Digit v false e = tt
  holding_takes test.LetterOrDigit v true e = tt
  holding_takes test.LetterOrDigit v false e = tt
  holding_takes test.Lower v true e = tt
  holding_takes test.Lower v false e = tt
  holding_takes test.Upper v true e = tt
  holding_takes test.Upper v false e = tt
  holding_takes t v b e = absurd (grind arith)

  tested : (t : Test) (s : Value) (v : ℤ) (b : Bool) → holds t v ≡ b
      → IsTold run facts.answer s (fore_of kept) (back_of kept) unread kept.registers.pairs v
      → IsReached run (cond b (way (holding t) facts.answer s (facts_taken facts))
      (way (other (holding t)) facts.answer s (facts_taken facts))) unread kept (model.levels_after_taking arguments)
  tested t s v true e i = reached _ (told (holding t) s v i (holding_takes t v true e))
  tested t s v false e i = reached _ (told (other (holding t)) s v i (holding_takes t v false e))

  conditioned : (t : Test) → Tells
      (λ (edges : Edges) v. IsReached run (cond (holds t v) edges.on edges.away) unread kept
      (model.levels_after_taking arguments))
      (needed_taken facts >>= λ n. Ok (record {
        on = way (holding t) facts.answer n (facts_taken facts);
        away = way (other (holding t)) facts.answer n (facts_taken facts);
      })) (number_in arguments.level)
  conditioned t =
      tells_then (λ s v. IsTold run facts.answer s (fore_of kept) (back_of kept) unread kept.registers.pairs v) _ _ _ _
      number_told (λ s v i l. tested t s v _ refl i)

  -- ; and :;
  leaving_takes : (colons : ℕ) (v : ℤ) (b : Bool) → leaves colons v ≡ b
      → Takes (cond b (leaving_numbers colons) (other (leaving_numbers colons))) v
  leaving_takes zero (pos n) true e = omega (arith, ints)
  leaving_takes zero (negsuc n) false e = omega (arith, ints)
  leaving_takes (suc colons) (pos n) false e = omega (arith, ints)
  leaving_takes (suc colons) (negsuc n) true e = omega (arith, ints)
  leaving_takes colons v b e = absurd (grind arith)

  leaves_or : (colons : ℕ) (s : Value) (v : ℤ) (b : Bool) → leaves colons v ≡ b
      → IsTold run facts.answer s (fore_of kept) (back_of kept) unread kept.registers.pairs v
      → LeavingOr run unread kept arguments b
      (record {
        on = way (other (leaving_numbers colons)) facts.answer s (facts_taken facts);
        away = option_map (leaving 1) (way (leaving_numbers colons) facts.answer s (facts_taken facts));
      })
  leaves_or colons s v true e i = left_behind _ (told (leaving_numbers colons) s v i (leaving_takes colons v true e))
  leaves_or colons s v false e i =
      reached _ (told (other (leaving_numbers colons)) s v i (leaving_takes colons v false e))

  left : (colons : ℕ) → Tells (λ (edges : Edges) v. LeavingOr run unread kept arguments (leaves colons v) edges)
      (needed_taken facts >>= λ n. Ok
      (record {
        on = way (other (leaving_numbers colons)) facts.answer n (facts_taken facts);
        away = option_map (leaving 1) (way (leaving_numbers colons) facts.answer n (facts_taken facts));
      }))
      (number_in arguments.level)
  left colons =
      tells_then (λ s v. IsTold run facts.answer s (fore_of kept) (back_of kept) unread kept.registers.pairs v) _ _ _ _
      number_told (λ s v i l. leaves_or colons s v _ refl i)

  -- <
  abbrev taken_facts : Facts
  taken_facts = without_arguments (transfers.without_answer facts)

  -- nothing else is pending there
  abbrev NoneLeft : Type 0
  NoneLeft = ArePending (fore_of kept) (back_of kept) known.no_arguments (model.levels_after_taking arguments)

  none_with : (outer : List KnownLevel) → AreEach (IsLevel (fore_of kept) (back_of kept)) outer arguments.outer
      → IfOk (cond (is_empty outer) (Ok tt) (Err refusal.Pending)) (λ (u : Unit {0}). NoneLeft)
  none_with [] h = record { level = empty_is facts.position.distances (fore_of kept) (back_of kept) now; outer = h }
  none_with (level ∷ outer) h = tt

  none_left : IfOk (none_pending (known.levels_after_taking facts.arguments)) (λ u. NoneLeft)
  none_left = none_with facts.arguments.outer d.pending.outer

  entered : (counted : Bool) → NoneLeft
      → Describes (run_in_turn unread kept run) (entering counted taken_facts) unread kept
      (model.levels_after_taking arguments)
  entered counted none = let h = d.state in record {
    state = record {
      position = record {
        begin = h.position.begin;
        end = h.position.end;
        fallen = (omega (arith, ints), h.position.fallen);
        ahead = h.position.ahead;
        saved = h.position.saved;
      };
      held = h.held;
      registers = let r = h.registers in record { numbers = r.numbers; texts = r.texts };
      pushed = h.pushed;
    };
    pending = none;
    answers = tt;
  }

  skipped : NoneLeft → Describes run taken_facts unread kept (model.levels_after_taking arguments)
  skipped none = record {
    state = let h = d.state in
        record { position = h.position; held = h.held; registers = h.registers; pushed = h.pushed };
    pending = none;
    answers = tt;
  }

  pub of_value : (s : Value) (v : ℤ) → IsValue (fore_of kept) (back_of kept) s v
      → IsWithin (interval_of facts.position.distances s) v
  of_value s v i = interval_of_in s facts.position.distances (fore_of kept) (back_of kept) v now.least
      (omega (arith, now.within)) (omega (arith, now.within)) i.is

  enters : (o : Option Value) (v : Option ℤ) → NoneLeft → IsOptional (IsValue (fore_of kept) (back_of kept)) o v
      → EntersOr run unread kept arguments v (iteration o taken_facts)
  enters None None none i = entered false none
  enters (Some s) (Some (pos (suc n))) none i =
      rw (within_may Positive (interval_of facts.position.distances s) (pos (suc n)) (of_value s (pos (suc n)) i)
      (omega (arith, ints))) (entered true none)
  enters (Some s) (Some (pos zero)) none i =
      rw (within_may NotPositive (interval_of facts.position.distances s) (pos zero) (of_value s (pos zero) i)
      (omega (arith, ints))) (skipped none)
  enters (Some s) (Some (negsuc n)) none i =
      rw (within_may NotPositive (interval_of facts.position.distances s) (negsuc n) (of_value s (negsuc n) i)
      (omega (arith, ints))) (skipped none)
  enters o v none i = absurd (grind arith)

  -- the turns: what a value is at most
  bounded_sum : (p : Polynomial) (k : ℕ) (v : ℤ) → v ≤ℤ (pos (value p run.n) +ℤ pos k)
      → IfOk (sum_of p (number k)) (λ most. v ≤ℤ pos (value most run.n))
  bounded_sum p k v b = on_sum _ (value-sum_of run.n p (number k)) where
    on_sum : (r : Result Polynomial RefusalReason)
        → IfOk r (λ most. value most run.n ≡ value p run.n + value (number k) run.n)
        → IfOk r (λ most. v ≤ℤ pos (value most run.n))
    on_sum (Ok most) e = omega (arith, ints, value-number k run.n)
    on_sum (Err why) e = tt

  bounded_both : (k : ℕ) (v : ℤ) → v ≤ℤ (pos (value facts.held run.n + value facts.held run.n) +ℤ pos k)
      → IfOk (sum_of facts.held facts.held >>= λ both. sum_of both (number k)) (λ most. v ≤ℤ pos (value most run.n))
  bounded_both k v b = on_sum _ (value-sum_of run.n facts.held facts.held) where
    on_sum : (r : Result Polynomial RefusalReason)
        → IfOk r (λ both. value both run.n ≡ value facts.held run.n + value facts.held run.n)
        → IfOk (r >>= λ both. sum_of both (number k)) (λ most. v ≤ℤ pos (value most run.n))
    on_sum (Ok both) e = bounded_sum both k v (omega (arith, ints))
    on_sum (Err why) e = tt

  bounded_number : (k : ℕ) (v : ℤ) → v ≤ℤ pos k → v ≤ℤ pos (value (number k) run.n)
  bounded_number k v b = omega (arith, ints, value-number k run.n)

  up_to_positive : (z : ℤ) → z ≤ℤ pos (positive z)
  up_to_positive (pos n) = omega (arith, ints)
  up_to_positive (negsuc n) = omega (arith, ints)

  -- of a value in which neither distance counts positively, and of any other
  by_interval : (s : Value) (v : ℤ) → IsValue (fore_of kept) (back_of kept) s v
      → v ≤ℤ pos (value (number (positive (interval_of facts.position.distances s).hi)) run.n)
  by_interval s v i = let w = of_value s v i in
      bounded_number _ v (omega (arith, ints, w, up_to_positive (interval_of facts.position.distances s).hi))

  by_signs : (x y : Bool) (s : Value) (v : ℤ) → int_le s.ahead (pos 0) ≡ x → int_le s.behind (pos 0) ≡ y
      → IsValue (fore_of kept) (back_of kept) s v
      → v ≤ℤ pos (value (number (cond (x && y) (positive s.hi) (positive (interval_of facts.position.distances s).hi)))
      run.n)
  by_signs true true s v p q i =
      let f : (pos (fore_of kept) *ℤ s.ahead) ≤ℤ (pos (fore_of kept) *ℤ pos 0) =
      scaled_le (fore_of kept) s.ahead (pos 0) (omega (arith, ints)) in
      let g : (pos (back_of kept) *ℤ s.behind) ≤ℤ (pos (back_of kept) *ℤ pos 0) =
      scaled_le (back_of kept) s.behind (pos 0) (omega (arith, ints)) in
      bounded_number (positive s.hi) v (omega (arith, ints, i.is.high, up_to_positive s.hi))
  by_signs true false s v p q i = by_interval s v i
  by_signs false y s v p q i = by_interval s v i

  -- the coefficients, the constant and the interval of a value, by themselves
  abbrev parts : ℤ → ℤ → ℤ → ℤ → Bool → Value
  parts a b lo hi saved = record { ahead = a; behind = b; lo = lo; hi = hi; saved = saved }

  bounded_by : (a b lo hi : ℤ) (saved : Bool) (v : ℤ) → IsValue (fore_of kept) (back_of kept) (parts a b lo hi saved) v
      → IfOk (bound_by a b (positive hi) (positive (interval_of facts.position.distances (parts a b lo hi saved)).hi)
      facts) (λ most. v ≤ℤ pos (value most run.n))
  bounded_by (pos (suc zero)) (pos (suc zero)) lo hi saved v i =
      bounded_sum facts.held (positive hi) v (omega (
        arith,
        ints,
        i.is.high,
        up_to_positive hi,
        d.state.held,
        whole.inside,
      ))
  bounded_by (pos zero) (pos (suc zero)) lo hi saved v i =
      bounded_sum facts.held (positive hi) v (omega (
        arith,
        ints,
        i.is.high,
        up_to_positive hi,
        d.state.held,
        whole.inside,
      ))
  bounded_by (pos (suc zero)) (pos zero) lo hi saved v i =
      bounded_sum facts.position.ahead (positive hi) v
      (omega (arith, ints, i.is.high, up_to_positive hi, d.state.position.ahead, whole.inside))
  bounded_by (pos (suc zero)) (pos (suc (suc zero))) lo hi saved v i =
      bounded_both (positive hi) v (omega (arith, ints, i.is.high, up_to_positive hi, d.state.held, whole.inside))
  bounded_by a b lo hi saved v i = by_signs _ _ (parts a b lo hi saved) v refl refl i

  pub bound_is : (s : Value) (v : ℤ) → IsValue (fore_of kept) (back_of kept) s v
      → IfOk (bound_of s facts) (λ most. v ≤ℤ pos (value most run.n))
  bound_is s v i = bounded_by s.ahead s.behind s.lo s.hi s.saved v i

  ahead_and_one : IfOk (sum_of facts.position.ahead (number 1)) (λ most. fore_of kept + unread + 1 ≤ value most run.n)
  ahead_and_one = on_sum _ (value-sum_of run.n facts.position.ahead (number 1)) where
    on_sum : (r : Result Polynomial RefusalReason)
        → IfOk r (λ most. value most run.n ≡ value facts.position.ahead run.n + value (number 1) run.n)
        → IfOk r (λ most. fore_of kept + unread + 1 ≤ value most run.n)
    on_sum (Ok most) e = omega (arith, value-number 1 run.n, d.state.position.ahead)
    on_sum (Err why) e = tt

  turned : (r : Result Polynomial RefusalReason) (taken : Taken)
      → IfOk r (λ most. AreTurns (value most run.n) (fore_of kept + unread) taken.value)
      → Tells (λ most (taken : Taken). AreTurns (value most run.n) (fore_of kept + unread) taken.value) r (Ok taken)
  turned (Ok most) taken h = λ l. h
  turned (Err why) taken h = tt

  turns_for : (o : Option Value) (v : Option ℤ) → IsOptional (IsValue (fore_of kept) (back_of kept)) o v
      → IfOk (turns_of o facts) (λ most. AreTurns (value most run.n) (fore_of kept + unread) v)
  turns_for None None i = ahead_and_one
  turns_for (Some s) (Some v) i = bound_is s v i
  turns_for None (Some v) i = absurd i
  turns_for (Some s) None i = absurd i

  iterated : Tells (λ edges (taken : Taken). EntersOr run unread kept arguments taken.value edges)
      (known.arguments_of facts.arguments.level >>= λ taken. none_pending (known.levels_after_taking facts.arguments)
      >>= λ alone. turns_of taken.value (transfers.without_answer facts) >>= λ most.
      Ok (iteration taken.value taken_facts)) (model.arguments_of arguments.level)
  iterated =
      tells_then (IsTaken (fore_of kept) (back_of kept))
      (λ edges (taken : Taken). EntersOr run unread kept arguments taken.value edges) _ _ _ taking_is
      (λ own taken i.
      passes_with (λ (u : Unit {0}). NoneLeft)
      (λ edges (taken : Taken). EntersOr run unread kept arguments taken.value edges)
      (none_pending (known.levels_after_taking facts.arguments)) (Ok taken)
      (λ alone. turns_of own.value (transfers.without_answer facts) >>= λ most.
      Ok (iteration own.value taken_facts)) none_left (λ alone none.
      passes (λ edges (taken : Taken). EntersOr run unread kept arguments taken.value edges)
      (turns_of own.value (transfers.without_answer facts)) (Ok taken)
      (λ most. Ok (iteration own.value taken_facts)) (λ most l. enters own.value taken.value none i.value)))

  -- >
  at_end : (i : Iteration) (outer : List Iteration)
      → EndsTurn run unread kept i.counted
      (record {
        on = cond i.counted (Some (leaving 1 (transfers.without_answer facts))) None;
        away = Some (at_position (begun (drop 1 facts.position.falls) facts.position)
            (without_arguments (transfers.without_answer facts)));
      })
  at_end i outer = let h = d.state in record {
    back = record {
      state = record {
        position = record {
          begin = h.position.begin;
          end = h.position.end;
          fallen = (
            omega (arith, ints),
            each_dropped (HasFallen (fore_of kept + unread)) 1 facts.position.falls
                run.turns h.position.fallen,
          );
          ahead = h.position.ahead;
          saved = h.position.saved;
        };
        held = h.held;
        registers = let r = h.registers in record { numbers = r.numbers; texts = r.texts };
        pushed = h.pushed;
      };
      pending = nothing_is facts.position.distances (fore_of kept) (back_of kept) now;
      answers = tt;
    };
    on = λ e. rw e (iterations_left 1);
  }

  -- O
  tagged : (leaves : ℕ) (o : Option Value) (v : Option ℤ) → IsOptional (IsValue (fore_of kept) (back_of kept)) o v
      → IfOk (without_value o) (λ alone. (v ≡ None) × Describes (run_behind leaves run)
      (leaving leaves (transfers.without_answer facts)) unread kept model.no_arguments)
  tagged leaves None None i = (
    refl,
    iterations_left leaves,
  )
  tagged leaves (Some s) v i = tt
  tagged leaves None (Some v) i = absurd i

  gone : (leaves : ℕ) → Tells (λ (edges : Edges) (taken : Taken). (taken.value ≡ None)
      × IsReached (run_behind leaves run) edges.away unread kept model.no_arguments)
      (known.arguments_of facts.arguments.level >>= λ taken. without_value taken.value >>= λ alone.
      Ok (record { on = None; away = Some (leaving leaves (transfers.without_answer facts)) }))
      (model.arguments_of arguments.level)
  gone leaves = tells_then (IsTaken (fore_of kept) (back_of kept)) _ _ _ _ taking_is
      (λ known taken i. alone_on _ taken (tagged leaves known.value taken.value i.value)) where
        alone_on : (r : Result (Unit {0}) RefusalReason) (taken : Taken)
            → IfOk r (λ alone. (taken.value ≡ None) × Describes (run_behind leaves run)
            (leaving leaves (transfers.without_answer facts)) unread kept model.no_arguments)
            → Tells (λ (edges : Edges) (taken : Taken). (taken.value ≡ None)
            × IsReached (run_behind leaves run) edges.away unread kept model.no_arguments)
            (r >>= λ alone. Ok (record { on = None; away = Some (leaving leaves (transfers.without_answer facts)) }))
            (Ok taken)
        alone_on (Ok u) taken h = λ l. h
        alone_on (Err why) taken h = tt

-- ---- the laws
pub tests_are_sound : TestsAreSound
tests_are_sound run facts unread kept arguments x t whole d e =
    by_kind x facts _ (λ r. Tells (λ (edges : Edges) v. IsReached run (cond (holds t v) edges.on edges.away) unread kept
    (model.levels_after_taking arguments)) r (number_needed arguments)) e
    (conditioned run facts unread kept arguments whole d t)

pub leaves_are_sound : LeavesAreSound
leaves_are_sound run facts unread kept arguments x whole d e =
    by_kind x facts _ (λ r. Tells (λ (edges : Edges) v. LeavingOr run unread kept arguments
    (leaves x.element.colons v) edges) r (number_needed arguments)) e
    (left run facts unread kept arguments whole d x.element.colons)

pub iterations_are_sound : IterationsAreSound
iterations_are_sound run facts unread kept arguments x whole d e =
    by_kind x facts _ (λ r. Tells (λ edges (taken : Taken). EntersOr run unread kept arguments taken.value edges) r
    (model.arguments_of arguments.level)) e
    (iterated run facts unread kept arguments whole d)

pub turns_are_sound : TurnsAreSound
turns_are_sound run facts unread kept arguments whole d =
    tells_then (IsTaken (fore_of kept) (back_of kept))
    (λ most (taken : Taken). AreTurns (value most run.n) (fore_of kept + unread) taken.value) _ _ _
    (taking_is run facts unread kept arguments whole d)
    (λ known taken i. turned run facts unread kept arguments whole d _ taken
    (turns_for run facts unread kept arguments whole d known.value taken.value i.value))

pub tags_are_sound : TagsAreSound
tags_are_sound run facts unread kept arguments x whole d e =
    by_kind x facts _ (λ r. Tells (λ (edges : Edges) (taken : Taken). (taken.value ≡ None)
    × IsReached (run_behind x.leaves run) edges.away unread kept model.no_arguments) r
    (model.arguments_of arguments.level)) e
    (gone run facts unread kept arguments whole d x.leaves)

pub turn_ends_are_sound : TurnEndsAreSound
turn_ends_are_sound run facts unread kept arguments x i outer whole d e f =
    by_kind x facts _ (λ r. IfOk r (λ edges. EndsTurn run unread kept i.counted edges)) e
    (subst (λ iterations. IfOk (turn_end iterations (transfers.without_answer facts))
    (λ edges. EndsTurn run unread kept i.counted edges)) (sym f)
    (at_end run facts unread kept arguments whole d i outer))

pub others_are_sound : OthersAreSound
others_are_sound run facts unread kept arguments x d =
    let n = without_answer run facts unread kept arguments d in record {
      otherwise =
          λ e. by_kind x facts _ (λ r. IfOk r (λ (edges : Edges). IsReached run edges.away unread kept arguments)) e n;
      ahead = λ g e.
          by_kind x facts _ (λ r. IfOk r (λ (edges : Edges). IsReached run edges.away unread kept arguments)) e n;
      end = λ e.
          by_kind x facts _ (λ r. IfOk r (λ (edges : Edges). IsReached run edges.on unread kept arguments)) e n;
      comment =
          λ e. by_kind x facts _ (λ r. IfOk r (λ (edges : Edges). IsReached run edges.on unread kept arguments)) e n;
      call = λ c e.
          by_kind x facts _ (λ r. IfOk r (λ (edges : Edges). IsReached run edges.on unread kept arguments)) e n;
      returns = n;
    }
