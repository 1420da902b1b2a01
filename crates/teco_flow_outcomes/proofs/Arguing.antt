-- What changes the pending arguments alone.
use Rattle.teco_flow_outcomes.proofs.Prelude.{◌≡◌, ℕ, ◌+◌, ◌≤◌, ◌==◌, ℤ, pos, negsuc, ◌≤ℤ◌, List, [], ◌∷◌, ◌++◌, length}
use Rattle.teco_flow_outcomes.proofs.Prelude.{drop, Bool, true, false, Option, Some, None, Result, Ok, if◌then◌else◌}
use Rattle.teco_flow_outcomes.proofs.Prelude.{option_and_then, slice_index_or, refl, sym, ap, subst, ◌∙◌, arith}
use Rattle.teco_flow_outcomes.proofs.Prelude.{unwrap_or, w32, ints, ok_or, Code, Term, Valuation, value, Arguments}
use Rattle.teco_flow_outcomes.proofs.Prelude.{level_with, ◌>>=◌, levels_after, Operator, STEPS, Case, Number, Length}
use Rattle.teco_flow_outcomes.proofs.Prelude.{Turns, PushedNumber, PushedLength, First, Value, Measure, One, Each}
use Rattle.teco_flow_outcomes.proofs.Prelude.{Steps, Pointer, Size, Held, LineEnd, LineStart, LastLength, CodeHere}
use Rattle.teco_flow_outcomes.proofs.Prelude.{CodeBefore, Typed, EntryHeld, Outcomes, Clause, Places, RowStep, value_if}
use Rattle.teco_flow_outcomes.proofs.Prelude.{EndsWith}
use Rattle.teco_flow_outcomes.proofs.Prelude.{IsAtLevel, IsCommanded, Rearranges, Succeeds, IsOutermost, with_arguments}
use Rattle.teco_flow_outcomes.proofs.Prelude.{AreMet, Before, Holds, changed, Point, IsLed, IsShape, IsTrueOf, WaitsFor}
use Rattle.teco_flow_outcomes.proofs.Prelude.{each, from_end, measures_of, read_at, described, left_alone}
use Rattle.teco_flow_outcomes.proofs.Prelude.{leaves_singles, single_alone, IsDropped}
use Rattle.std.proofs.Common.{Err}
use Rattle.std.proofs.Common.{length-append, FitsSigned}
use Rattle.std.proofs.lemmas.Int.{int_wrap_fits}
use Rattle.std.proofs.lemmas.List.{get_or_append_left}
use Rattle.std.proofs.Math.Seq.{get_or-append_seam}
use Rattle.std.specs.List.{All}
use Rattle.teco_base.specs.declared.code.Code.TheVariants as code
use Rattle.teco_linear.specs.Implied as linear
use Rattle.teco_model.specs.Arguments.{levels_after_open, levels_closed_onto, final_value, first_value}
use Rattle.teco_model.specs.Arguments.{no_first, with_level as model_with_level, level_after_comma}
use Rattle.teco_model.specs.Arguments.{operator_after, result_of}
use Rattle.teco_model.specs.Going.{after}
use Rattle.teco_model.specs.declared.arguments.Level.{Level}
use Rattle.teco_model.specs.declared.kind.Argument.TheVariants as argument
use Rattle.teco_flow_outcomes.specs.declared.arguments.TheConstants.{PARTS, OPENS}
use Rattle.teco_rows.specs.declared.levels.TheConstants.{STEP}
use Rattle.teco_rows.specs.declared.measure.Single.{Single}
use Rattle.teco_flow_outcomes.specs.declared.pairs.TheConstants.{PAIRS}
use Rattle.teco_rows.specs.Foretold.{Describe, Gives, IsOne, Makes, level_of, with_level}
use Rattle.teco_rows.specs.Levels.{GivesPair, IsDeeper, IsOpened, IsOutside, IsPaired, IsParted}
use Rattle.teco_rows.specs.Levels.{Leaves, PartsAt}
use Rattle.teco_rows.specs.Levels.{first_of, pair_level}
use Rattle.teco_rows.specs.States.{behind, levels}
use Rattle.teco_rows.proofs.Describing.{led_to}
use Rattle.teco_rows.proofs.Giving.{describes_one, given_alone, given_to}
use Rattle.teco_rows.proofs.Leading.{leaves}
use Rattle.teco_rows.proofs.Pending.{depth, first_there, level_at, level_same}

-- a row says nothing but of levels
pub record IsOfLevels (row : List Clause) : Type 0 where
  pub singles : leaves_singles row ≡ true
  pub numbers : leaves Number row ≡ true
  pub lengths : leaves Length row ≡ true
  pub turns : leaves Turns row ≡ true
  pub pushed_numbers : leaves PushedNumber row ≡ true
  pub pushed_lengths : leaves PushedLength row ≡ true

-- a row that says nothing of what a state has once leaves it
single_left : (row : List Clause) (b : Before) (which : Single) (x y : Option ℤ) → leaves_singles row ≡ true → x ≡ y
    → x ≡ changed row b (One which) y
single_left row b which x y s e = e ∙ sym (single_alone row b which y s)

-- a step with such a row holds where it holds of levels
module _ (row : List Clause) (of : IsOfLevels row) (s : Point) (here : Places) (given unknown : ℕ → ℤ)
    (arguments : Arguments) where
  abbrev b : Before
  b = read_at s here given unknown

  pub rearranges : AreMet row b
      → ((i : ℕ) → each (behind s (after s.kept arguments)) First i ≡ changed row b (Each First i) (each s First i))
      → ((i : ℕ) → each (behind s (after s.kept arguments)) Value i ≡ changed row b (Each Value i) (each s Value i))
      → Holds (STEP ∷ row) b (measures_of (behind s (after s.kept arguments)))
  rearranges met firsts values = record { met = met; becomes = becomes } where
    becomes : (m : Measure)
        → measures_of (behind s (after s.kept arguments)) m ≡ changed (STEP ∷ row) b m (measures_of s m)
    becomes (One Steps) =
        single_left row b Steps (Some (pos (s.steps + 1))) (changed (STEP ∷ []) b (One Steps) (Some (pos s.steps)))
        of.singles (ap Some (omega (arith, ints)))
    becomes (One Pointer) = single_left row b Pointer _ _ of.singles refl
    becomes (One Size) = single_left row b Size _ _ of.singles refl
    becomes (One Held) = single_left row b Held _ _ of.singles refl
    becomes (One LineEnd) = single_left row b LineEnd _ _ of.singles refl
    becomes (One LineStart) = single_left row b LineStart _ _ of.singles refl
    becomes (One LastLength) = single_left row b LastLength _ _ of.singles refl
    becomes (One CodeHere) = single_left row b CodeHere _ _ of.singles refl
    becomes (One CodeBefore) = single_left row b CodeBefore _ _ of.singles refl
    becomes (One Typed) = single_left row b Typed _ _ of.singles refl
    becomes (One EntryHeld) = single_left row b EntryHeld _ _ of.singles refl
    becomes (Each Number i) = left_alone row b Number i _ of.numbers
    becomes (Each Length i) = left_alone row b Length i _ of.lengths
    becomes (Each Turns i) = left_alone row b Turns i _ of.turns
    becomes (Each PushedNumber i) = left_alone row b PushedNumber i _ of.pushed_numbers
    becomes (Each PushedLength i) = left_alone row b PushedLength i _ of.pushed_lengths
    becomes (Each First i) = firsts i
    becomes (Each Value i) = values i

pub of_levels : (row : List Clause) → leaves_singles row ≡ true → leaves Number row ≡ true → leaves Length row ≡ true
    → leaves Turns row ≡ true → leaves PushedNumber row ≡ true → leaves PushedLength row ≡ true → IsOfLevels row
of_levels row a b c d e f = record {
  singles = a;
  numbers = b;
  lengths = c;
  turns = d;
  pushed_numbers = e;
  pushed_lengths = f;
}

-- what is not known, where nothing is
abbrev pub nothing : ℕ → ℤ
nothing i = pos 0

-- what becomes of the innermost level alone
levelled : (n : ℕ) (all : Outcomes) (s : Point) (r : Result Level Code)
    → Succeeds (λ level. Describe n all (behind s (with_level s level))) r
    → Succeeds (λ arguments. Describe n all (behind s (after s.kept arguments))) (model_with_level s.arguments r)
levelled n all s (Ok level) d = d
levelled n all s (Err c) d = d

-- nothing waits
pub waits_none : (case : Case) (operator : Option Operator) → operator ≡ None
    → ((s : Point) → IsShape case.shape s → operator ≡ s.arguments.level.operator) → WaitsFor None case
waits_none case operator e is s h = sym (is s h) ∙ e

pub waits_some : (case : Case) (waiting : Option Operator) (operator : Operator) → waiting ≡ Some operator
    → ((s : Point) → IsShape case.shape s → waiting ≡ s.arguments.level.operator) → WaitsFor (Some operator) case
waits_some case waiting operator e is s h = sym (is s h) ∙ e

-- ---- operators
pub operated : (case made : Case) (step : RowStep) (operator : Operator) (conditions : List (List Term))
    (all : Outcomes)
    → step.clauses.now ≡ STEPS
    → WaitsFor None case → IsLed case step (Some operator) made → IsOne conditions made all
    → Rearranges (levels_after (argument.Operate operator) []) case all
operated case made step operator conditions all row alone led one n v s begins =
    let level : Level = record s.arguments.level { operator = Some operator } in
    let b = read_at s step.here (λ i. value (slice_index_or step.given.now i []) n v) nothing in
    let holds = rearranges [] (of_levels [] refl refl refl refl refl refl) s step.here b.given nothing
    (record s.arguments { level = level }) tt
    (λ i. level_same s.arguments.level level s.arguments.outer i (λ l. l.first) refl)
    (λ i. level_same s.arguments.level level s.arguments.outer i (λ l. l.value) refl) in
    subst (Succeeds (λ arguments. Describe n all (behind s (after s.kept arguments))))
    (sym (ap (λ o. model_with_level s.arguments (operator_after operator o >>= (λ pending. Ok (record {
      first = s.arguments.level.first;
      value = s.arguments.level.value;
      operator = pending;
    })))) (alone s begins.true_of.shape)))
    (describes_one n conditions made all _ one
    (led_to n v case made step s level nothing led begins.true_of
    (subst (λ r. Holds r b (measures_of (behind s (with_level s level)))) (sym row) holds)))

-- ---- the comma
pub is_parted : (case made : Case) (step : RowStep) → step.clauses.now ≡ PARTS → IsAtLevel step.here case
    → IsLed case step None made → IsParted case (slice_index_or step.given.now 0 []) made
is_parted case made step row at led n v s true_of =
    let x = value (slice_index_or step.given.now 0 []) n v in
    let level = first_of x in
    let b = read_at s step.here (λ i. value (slice_index_or step.given.now i []) n v) nothing in
    let here = at s true_of.shape in
    let holds = rearranges (drop 1 PARTS) (of_levels (drop 1 PARTS) refl refl refl refl refl refl) s step.here b.given
    nothing (record s.arguments { level = level }) tt
    (λ i. level_at s.arguments.level level s.arguments.outer step.here.level i (λ l. l.first) _ here
    (ap Some (omega (arith, ints))))
    (λ i. level_at s.arguments.level level s.arguments.outer step.here.level i (λ l. l.value) None here refl) in
    led_to n v case made step s level nothing led true_of
    (subst (λ r. Holds r b (measures_of (behind s (with_level s level)))) (sym row) holds)

-- what a comma makes of the parts of a level
abbrev comma_after : Option ℤ → Result (Option ℤ) Code → Result Level Code
comma_after first ended =
    no_first first >>= (λ alone. ended >>= (λ value. first_value value >>= (λ x. Ok (first_of x))))

comma_of : (first : Option ℤ) (ended : Result (Option ℤ) Code) (x : ℤ) → first ≡ None → ended ≡ Ok (Some x)
    → pos 0 ≤ℤ x → comma_after first ended ≡ Ok (first_of x)
comma_of first ended x e f h =
    ap (λ o. comma_after o ended) e ∙ ap (comma_after None) f ∙ allowed x h where
      allowed : (x : ℤ) → pos 0 ≤ℤ x → comma_after None (Ok (Some x)) ≡ Ok (first_of x)
      allowed (pos n) h = refl
      allowed (negsuc n) h = absurd (omega (arith, ints))

-- nothing is before a comma at the innermost level
abbrev pub IsAlone : Case → Type 0
IsAlone case = (n : ℕ) (v : Valuation) (s : Point) → IsTrueOf n v case s → s.arguments.level.first ≡ None

pub is_alone : (case : Case) (first : Option (List Term)) → first ≡ None
    → ((n : ℕ) (v : Valuation) (s : Point) → IsTrueOf n v case s
    → value_if first n v ≡ each s First (length s.arguments.outer))
    → IsAlone case
is_alone case first e is n v s true_of =
    sym (first_there s) ∙ sym (is n v s true_of) ∙ ap (λ o. value_if o n v) e

pub parts_at : (case made : Case) (form copy : List Term) (wanted : List (List Term)) (all : Outcomes)
    → ((n : ℕ) (v : Valuation) → value copy n v ≡ value form n v) → IsParted case form made
    → wanted ≡ copy ∷ [] → IsOne wanted made all → PartsAt form case all
parts_at case made form copy wanted all same parted wants one n v s begins alone ends =
    let least : pos 0 ≤ℤ value copy n v =
    (subst (All (linear.Holds n v)) (one.conditions ∙ wants) begins.conditions) 0 copy (omega arith) in
    let e = comma_of s.arguments.level.first (final_value s.arguments.level) (value form n v) alone ends
    (subst (λ z. pos 0 ≤ℤ z) (same n v) least) in
    subst (Succeeds (λ level. Describe n all (behind s (with_level s level)))) (sym e)
    (describes_one n wanted made all _ one (parted n v s begins.true_of))

pub parts : (case : Case) (form : List Term) (all : Outcomes) → IsAlone case → EndsWith case (Some form)
    → PartsAt form case all → Rearranges (levels_after argument.Comma []) case all
parts case form all alone ends at n v s begins =
    levelled n all s (level_after_comma s.arguments.level)
    (at n v s begins (alone n v s begins.true_of) (ends n v s begins.true_of))

-- ---- pairs
pub is_paired : (case made : Case) (step : RowStep) → step.clauses.now ≡ PAIRS → IsAtLevel step.here case
    → IsLed case step None made
    → IsPaired case (slice_index_or step.given.now 0 []) (slice_index_or step.given.now 1 []) made
is_paired case made step row at led n v s true_of =
    let level = pair_level (value (slice_index_or step.given.now 0 []) n v)
    (value (slice_index_or step.given.now 1 []) n v) in
    let b = read_at s step.here (λ i. value (slice_index_or step.given.now i []) n v) nothing in
    let here = at s true_of.shape in
    let holds = rearranges (drop 1 PAIRS) (of_levels (drop 1 PAIRS) refl refl refl refl refl refl) s step.here b.given
    nothing (record s.arguments { level = level }) tt
    (λ i. level_at s.arguments.level level s.arguments.outer step.here.level i (λ l. l.first) _ here
    (ap Some (omega (arith, ints))))
    (λ i. level_at s.arguments.level level s.arguments.outer step.here.level i (λ l. l.value) _ here
    (ap Some (omega (arith, ints)))) in
    led_to n v case made step s level nothing led true_of
    (subst (λ r. Holds r b (measures_of (behind s (with_level s level)))) (sym row) holds)

pub leaves_alone : (case : Case) (number copy : List Term) (conditions : List (List Term)) → WaitsFor None case
    → ((n : ℕ) (v : Valuation) → value copy n v ≡ value number n v) → Leaves number case conditions copy
leaves_alone case number copy conditions alone same n v s true_of holds =
    given_alone s.arguments.level (value number n v) (alone s true_of.shape)
    ∙ ap (λ x. Ok (level_of s x)) (sym (same n v))

pub leaves_made : (case : Case) (left number form : List Term) (operator : Operator) (conditions : List (List Term))
    → WaitsFor (Some operator) case
    → ((n : ℕ) (v : Valuation) (s : Point) → IsTrueOf n v case s
    → value left n v ≡ unwrap_or s.arguments.level.value (pos 0))
    → Makes left operator number form
    → ((n : ℕ) (v : Valuation) → All (linear.Holds n v) conditions → FitsSigned w32 (value form n v))
    → Leaves number case conditions form
leaves_made case left number form operator conditions waits left_is makes fits n v s true_of holds =
    given_to s.arguments.level operator (value number n v) (waits s true_of.shape)
    ∙ ap (λ r. r >>= (λ given. Ok (level_of s given)))
    (ap (λ x. result_of operator x (value number n v)) (sym (left_is n v s true_of)) ∙ makes n v
    ∙ ap Ok (int_wrap_fits w32 (value form n v) (fits n v holds)))

pub gives_pair : (case made : Case) (first form copy second : List Term) (conditions wanted : List (List Term))
    (all : Outcomes) → IsAlone case → Leaves first case conditions form
    → ((n : ℕ) (v : Valuation) → value copy n v ≡ value form n v) → IsPaired case form second made
    → wanted ≡ conditions ++ copy ∷ [] → IsOne wanted made all → GivesPair first second case all
gives_pair case made first form copy second conditions wanted all alone leaves same paired wants one n v s begins =
    let x = value form n v in
    let y = value second n v in
    let both = subst (All (linear.Holds n v)) (one.conditions ∙ wants) begins.conditions in
    let least : pos 0 ≤ℤ value copy n v =
    subst (linear.Holds n v) (get_or-append_seam conditions copy [] copy)
    (both (length conditions) copy (omega (arith, length-append conditions (copy ∷ [])))) in
    let e = leaves n v s begins.true_of (λ i d h. subst (linear.Holds n v)
    (get_or_append_left conditions (copy ∷ []) d i h)
    (both i d (omega (arith, length-append conditions (copy ∷ []))))) in
    let f = comma_of s.arguments.level.first (Ok (Some x)) x (alone n v s begins.true_of) refl
    (subst (λ z. pos 0 ≤ℤ z) (same n v) least) in
    subst (Succeeds (λ level. Describe n all (behind s (with_level s level))))
    (sym (ap (λ r. r >>= (λ first. level_after_comma first >>= (λ parted. level_with y parted))) e
    ∙ ap (λ r. r >>= (λ parted. level_with y parted)) f))
    (describes_one n wanted made all _ one (paired n v s begins.true_of))

-- ---- parentheses
-- one level more, which has this
level_more : (level : Level) (ls : List Level) (at i : ℕ) (get : Level → Option ℤ) (x : Option ℤ) → at ≡ length ls
    → get level ≡ x
    → option_and_then get (from_end (level ∷ ls) i)
    ≡ (if at == i then x else option_and_then get (from_end ls i))
level_more level ls at i get x e f =
    chosen (length ls == i) ∙ ap (λ k. if k == i then x else option_and_then get (from_end ls i)) (sym e) where
      chosen : (b : Bool) → option_and_then get (if b then Some level else from_end ls i)
          ≡ (if b then x else option_and_then get (from_end ls i))
      chosen true = f
      chosen false = refl

pub is_opened : (case made : Case) (step : RowStep) → step.clauses.now ≡ OPENS
    → ((s : Point) → IsShape case.shape s → step.here.level ≡ length s.arguments.outer + 1) → IsDeeper case step made
    → IsOpened case made
is_opened case made step row at deeper n v s true_of =
    let arguments = levels_after_open s.arguments in
    let b = read_at s step.here (λ i. value (slice_index_or step.given.now i []) n v) nothing in
    let here : step.here.level ≡ length (levels s.arguments) = at s true_of.shape ∙ omega arith in
    let holds = rearranges (drop 1 OPENS) (of_levels (drop 1 OPENS) refl refl refl refl refl refl) s step.here b.given
    nothing arguments tt
    (λ i. level_more arguments.level (levels s.arguments) step.here.level i (λ l. l.first) None here refl)
    (λ i. level_more arguments.level (levels s.arguments) step.here.level i (λ l. l.value) None here refl) in
    described n v case made step s (behind s (after s.kept arguments)) nothing deeper.carries true_of
    (subst (λ r. Holds r b (measures_of (behind s (after s.kept arguments)))) (sym row) holds)
    (record {
      operators = deeper.operators ∙ ap (λ o. o ++ None ∷ []) true_of.shape.operators;
      iterations = deeper.iterations ∙ true_of.shape.iterations;
      pushes = ap (λ k. s.origin.pushes + k) deeper.pushes ∙ true_of.shape.pushes;
    })

pub opens : (case made : Case) (conditions : List (List Term)) (all : Outcomes) → IsOpened case made
    → IsOne conditions made all → Rearranges (levels_after argument.Open []) case all
opens case made conditions all opened one n v s begins =
    describes_one n conditions made all _ one (opened n v s begins.true_of)

-- the value in parentheses
abbrev inner_of : Option ℤ → Result (Option ℤ) Code → Result ℤ Code
inner_of first ended = no_first first >>= (λ alone. ended >>= (λ value. ok_or value code.Arg))

inner_is : (first : Option ℤ) (ended : Result (Option ℤ) Code) (x : ℤ) → first ≡ None → ended ≡ Ok (Some x)
    → inner_of first ended ≡ Ok x
inner_is first ended x e f = ap (λ o. inner_of o ended) e ∙ ap (inner_of None) f

pub closes : (case outside : Case) (form : List Term) (all : Outcomes) → 2 ≤ length case.shape.operators.items
    → IsAlone case → EndsWith case (Some form) → IsOutside case outside → Gives form outside all
    → Rearranges (levels_after argument.Close []) case all
closes case outside form all deep alone ends is_outside gives n v s begins = closed s.arguments.outer refl where
  passed : (outer : List Level) (r : Result Level Code)
      → Succeeds (λ level. Describe n all (behind s (after s.kept (record { level = level; outer = outer })))) r
      → Succeeds (λ arguments. Describe n all (behind s (after s.kept arguments)))
      (r >>= (λ given. Ok (record { level = given; outer = outer })))
  passed outer (Ok level) d = d
  passed outer (Err c) d = d

  closed : (outer : List Level) → s.arguments.outer ≡ outer
      → Succeeds (λ arguments. Describe n all (behind s (after s.kept arguments)))
      (levels_closed_onto s.arguments.level s.arguments.outer)
  closed [] e = absurd (omega (arith, depth case.shape s begins.true_of.shape, ap length e))
  closed (level ∷ outer) e =
      let t = with_arguments s (record { level = level; outer = outer }) in
      let given = gives n v t (record {
        whole = begins.whole;
        true_of = is_outside n v s level outer begins.true_of e;
        conditions = begins.conditions;
        guarded = begins.guarded;
      }) in
      subst (Succeeds (λ arguments. Describe n all (behind s (after s.kept arguments))))
      (sym (ap (levels_closed_onto s.arguments.level) e
      ∙ ap (λ r. r >>= (λ value. level_with value level >>= (λ given. Ok (record {
        level = given;
        outer = outer;
      })))) (inner_is s.arguments.level.first (final_value s.arguments.level) (value form n v)
      (alone n v s begins.true_of)
      (ends n v s begins.true_of))))
      (passed outer (level_with (value form n v) level) given)

-- ---- ESC
pub is_dropped : (case outermost made : Case) (given : List (List Term)) (here : Places) → IsOutermost case outermost
    → IsCommanded outermost [] given here made → IsDropped case made
is_dropped case outermost made given here out commanded n v s true_of =
    let o = out n v s true_of in
    let t = with_arguments s (record { level = o.0; outer = [] }) in
    commanded n v t s.kept None nothing o.1 (record { met = tt; becomes = λ m. refl; pushes = refl })

pub drops : (case made : Case) (conditions : List (List Term)) (all : Outcomes) → IsDropped case made
    → IsOne conditions made all → Rearranges (levels_after argument.DropAll []) case all
drops case made conditions all is one n v s begins =
    describes_one n conditions made all _ one (is n v s begins.true_of)

-- ---- digits
pub number_given : (case : Case) (form : List Term) (number : ℤ) (all : Outcomes)
    → ((n : ℕ) (v : Valuation) → value form n v ≡ number) → Gives form case all
    → Rearranges (λ arguments. model_with_level arguments (level_with number arguments.level)) case all
number_given case form number all same gives n v s begins =
    subst (λ x. Succeeds (λ arguments. Describe n all (behind s (after s.kept arguments)))
    (model_with_level s.arguments (level_with x s.arguments.level))) (same n v)
    (levelled n all s (level_with (value form n v) s.arguments.level) (gives n v s begins))
