-- Cases without some levels of pending arguments.
use Rattle.teco_rows.proofs.Prelude.{◌≡◌, ℕ, ◌+◌, ◌<◌, ◌≤◌, ◌==◌, List, [], ◌∷◌, length, Bool, true, false, Option}
use Rattle.teco_rows.proofs.Prelude.{Some, None, ℤ, if◌then◌else◌, option_and_then, slice_index_or, refl, sym, ap}
use Rattle.teco_rows.proofs.Prelude.{subst, ◌∙◌, arith, nat_tests, All, Term, Valuation, Arguments, Level, Case, VALUE}
use Rattle.teco_rows.proofs.Prelude.{Number, Length, Turns, PushedNumber, PushedLength, First, Value, Measure, One}
use Rattle.teco_rows.proofs.Prelude.{Each, Steps, Pointer, Size, Held, LineEnd, LineStart, LastLength, CodeHere}
use Rattle.teco_rows.proofs.Prelude.{CodeBefore, Typed, EntryHeld, Places, IsAtLevel, value_if, place, is_at}
use Rattle.teco_rows.proofs.Prelude.{measure_at, Point}
use Rattle.teco_rows.proofs.Prelude.{IsTrueOf, from_end, levels, measures_of, operators_of}
use Rattle.teco_linear.specs.Implied as linear
use Rattle.teco_rows.specs.declared.levels.TheConstants.{FIRST}
use Rattle.teco_rows.specs.Levels.{Empties, IsCopyOf, IsFront, IsOutermost, IsOutside, with_arguments}
use Rattle.teco_rows.proofs.Following.{put_is}
use Rattle.teco_rows.proofs.Pending.{depth}

equal_false : (a b : ℕ) → b < a → (b == a) ≡ false
equal_false a b h = grind (arith, nat_tests)

-- behind the last one, counted from the end, there is none
pub beyond : {X : Type 0} (xs : List X) (i : ℕ) → length xs ≤ i → from_end xs i ≡ None
beyond [] i h = refl
beyond (x ∷ xs) i h =
    ap (λ b. if b then Some x else from_end xs i) (equal_false i (length xs) (omega arith))
    ∙ beyond xs i (omega arith)

pub equal_is : (a b : ℕ) → (a == b) ≡ true → a ≡ b
equal_is a b h = grind (arith, nat_tests)

-- what is at a level that goes is there no more
gone : (level : Level) (ls : List Level) (at i : ℕ) (get : Level → Option ℤ) → at ≡ length ls
    → (if at == i then None else option_and_then get (from_end (level ∷ ls) i))
    ≡ option_and_then get (from_end ls i)
gone level ls at i get e =
    ap (λ k. if k == i then None else option_and_then get (from_end (level ∷ ls) i)) e
    ∙ chosen (length ls == i) refl where
      chosen : (b : Bool) → (length ls == i) ≡ b
          → (if b then None else option_and_then get (if b then Some level else from_end ls i))
          ≡ option_and_then get (from_end ls i)
      chosen true h = sym (ap (option_and_then get) (beyond ls i (omega (arith, equal_is (length ls) i h))))
      chosen false h = refl

module _ (s : Point) (level : Level) (outer : List Level) (here : Places) (e : s.arguments.outer ≡ level ∷ outer)
    (at : here.level ≡ length s.arguments.outer) where
  get_gone : (get : Level → Option ℤ) (i : ℕ)
      → (if here.level == i then None else option_and_then get (from_end (levels s.arguments) i))
      ≡ option_and_then get (from_end (level ∷ outer) i)
  get_gone get i =
      ap (λ ls. if here.level == i then None else option_and_then get (from_end (s.arguments.level ∷ ls) i)) e
      ∙ gone s.arguments.level (level ∷ outer) here.level i get (at ∙ ap length e)

  pub without : (m : Measure)
      → (if is_at here VALUE m then None else if is_at here FIRST m then None else measures_of s m)
      ≡ measures_of (with_arguments s (record { level = level; outer = outer })) m
  without (One Steps) = refl
  without (One Pointer) = refl
  without (One Size) = refl
  without (One Held) = refl
  without (One LineEnd) = refl
  without (One LineStart) = refl
  without (One LastLength) = refl
  without (One CodeHere) = refl
  without (One CodeBefore) = refl
  without (One Typed) = refl
  without (One EntryHeld) = refl
  without (Each Number i) = refl
  without (Each Length i) = refl
  without (Each Turns i) = refl
  without (Each PushedNumber i) = refl
  without (Each PushedLength i) = refl
  without (Each First i) = get_gone (λ l. l.first) i
  without (Each Value i) = get_gone (λ l. l.value) i

pub is_outside : (case copy made : Case) (here : Places) → IsAtLevel here case → IsCopyOf case copy
    → Empties here copy.forms.items made.forms.items → made.constraints.items ≡ copy.constraints.items
    → IsFront copy.shape.operators.items made.shape.operators.items
    → made.shape.iterations ≡ copy.shape.iterations → made.shape.pushes ≡ copy.shape.pushes → IsOutside case made
is_outside case copy made here at is_copy empties constraints front iterations pushes n v s level outer true_of e =
    let same = is_copy n v s true_of in
    record {
      fits = record {
        measures = λ m.
            empties n v m
            ∙ ap (λ x. if is_at here VALUE m then None else if is_at here FIRST m then None else x)
            (same.fits.measures m)
            ∙ without s level outer here e (at s true_of.shape) m;
        constraints = subst (All (linear.Holds n v)) (sym constraints) same.fits.constraints;
      };
      shape = record {
        operators = front (operators_of (level ∷ outer)) s.arguments.level.operator
            (same.shape.operators ∙ ap (λ ls. operators_of (s.arguments.level ∷ ls)) e);
        iterations = iterations ∙ same.shape.iterations;
        pushes = ap (λ k. s.origin.pushes + k) pushes ∙ same.shape.pushes;
      };
    }

pub is_copy : (case copy : Case)
    → ((n : ℕ) (v : Valuation) (k : ℕ) → value_if (slice_index_or copy.forms.items k None) n v
    ≡ value_if (slice_index_or case.forms.items k None) n v)
    → ((n : ℕ) (v : Valuation) → All (linear.Holds n v) case.constraints.items
    → All (linear.Holds n v) copy.constraints.items)
    → copy.shape.operators.items ≡ case.shape.operators.items → copy.shape.iterations ≡ case.shape.iterations
    → copy.shape.pushes ≡ case.shape.pushes → IsCopyOf case copy
is_copy case copy forms constraints operators iterations pushes n v s true_of = record {
  fits = record {
    measures = λ m. forms n v (place m) ∙ true_of.fits.measures m;
    constraints = constraints n v true_of.fits.constraints;
  };
  shape = record {
    operators = operators ∙ true_of.shape.operators;
    iterations = iterations ∙ true_of.shape.iterations;
    pushes = ap (λ k. s.origin.pushes + k) pushes ∙ true_of.shape.pushes;
  };
}

pub empties : (here : Places) (old mid new : List (Option (List Term))) (first second : ℕ)
    → first ≡ place (measure_at here FIRST)
    → ((k : ℕ) → slice_index_or mid k None ≡ (if first == k then None else slice_index_or old k None))
    → second ≡ place (measure_at here VALUE)
    → ((k : ℕ) → slice_index_or new k None ≡ (if second == k then None else slice_index_or mid k None))
    → Empties here old new
empties here old mid new first second e p f q n v m =
    put_is new mid None here VALUE second None f q n v refl m
    ∙ ap (λ x. if is_at here VALUE m then None else x) (put_is mid old None here FIRST first None e p n v refl m)

-- ---- one level after the other
-- a case is true of the states without some levels
abbrev pub IsReached : Case → ℕ → Case → Type 0
IsReached case done made =
    (n : ℕ) (v : Valuation) (s : Point)
    → IsTrueOf n v case s
    → (arguments : Arguments)
    × (length arguments.outer + done ≡ length s.arguments.outer + 1)
    × IsTrueOf n v made (with_arguments s arguments)

pub reached_first : (case copy : Case) → IsCopyOf case copy → IsReached case 1 copy
reached_first case copy is n v s true_of = (s.arguments, refl, is n v s true_of)

parted : (levels : List Level) → 1 ≤ length levels → (level : Level) × (outer : List Level) × (levels ≡ level ∷ outer)
parted [] h = absurd (omega arith)
parted (level ∷ outer) h = (level, outer, refl)

pub reached_more : (case made next : Case) (done : ℕ) → done < length case.shape.operators.items
    → IsReached case done made → IsOutside made next → IsReached case (done + 1) next
reached_more case made next done h reached out n v s true_of =
    let r = reached n v s true_of in
    let d = depth case.shape s true_of.shape in
    let count : length r.0.outer + done ≡ length s.arguments.outer + 1 = r.1 in
    let o = parted r.0.outer (omega arith) in
    let long : length r.0.outer ≡ length o.1 + 1 = ap length o.2 ∙ omega arith in (
      record { level = o.0; outer = o.1 },
      omega arith,
      out n v (with_arguments s r.0) o.0 o.1 r.2 o.2,
    )

empty_of : (levels : List Level) → length levels ≡ 0 → levels ≡ []
empty_of [] h = refl
empty_of (level ∷ outer) h = absurd (omega arith)

pub reached_last : (case made : Case) (done : ℕ) → length case.shape.operators.items ≤ done → IsReached case done made
    → IsOutermost case made
reached_last case made done h reached n v s true_of =
    let r = reached n v s true_of in
    let d = depth case.shape s true_of.shape in
    let count : length r.0.outer + done ≡ length s.arguments.outer + 1 = r.1 in
    let none = empty_of r.0.outer (omega arith) in (
      r.0.level,
      subst (λ outer. IsTrueOf n v made (with_arguments s (record { level = r.0.level; outer = outer }))) none r.2,
    )
