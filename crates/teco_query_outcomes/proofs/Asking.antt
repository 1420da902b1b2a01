-- Q and ^X.
use Rattle.teco_query_outcomes.proofs.Prelude.{◌≡◌, ℕ, zero, suc, ◌<◌, ◌≤◌, ℤ, pos, negsuc, ◌≤ℤ◌, List, [], ◌∷◌, length}
use Rattle.teco_query_outcomes.proofs.Prelude.{Bool}
use Rattle.teco_query_outcomes.proofs.Prelude.{true, false, Option, Some, None, slice_get, unwrap_or, slice_index_or}
use Rattle.teco_query_outcomes.proofs.Prelude.{refl}
use Rattle.teco_query_outcomes.proofs.Prelude.{sym, ap, subst, ◌∙◌, arith, ints, Term, Valuation, value, level_with}
use Rattle.teco_query_outcomes.proofs.Prelude.{value_beside, code_at, pair_of, Kept, after_query_with, Operator}
use Rattle.teco_query_outcomes.proofs.Prelude.{AreBytes}
use Rattle.teco_query_outcomes.proofs.Prelude.{IsWhole, Case, Single, Steps, Pointer, Size, Held, LineEnd, LineStart}
use Rattle.teco_query_outcomes.proofs.Prelude.{LastLength, CodeHere, CodeBefore, Typed, EntryHeld, Outcomes, Places}
use Rattle.teco_query_outcomes.proofs.Prelude.{IsAtLevel}
use Rattle.teco_query_outcomes.proofs.Prelude.{Leads}
use Rattle.teco_query_outcomes.proofs.Prelude.{commanded, Describe, Gives, GivesAny, IsOne, Succeeds, with_level, Asks}
use Rattle.teco_query_outcomes.proofs.Prelude.{Stands, value_if, Value, Point, IsShape, IsTrueOf, behind, each, single}
use Rattle.teco_query_outcomes.proofs.Prelude.{read_at, describes_one, answers, leads, value_there}
use Rattle.std.proofs.Common.{is_some, is_none, ◌&&◌}
use Rattle.std.proofs.Common.{option_map}
use Rattle.std.specs.List.{AllByRecursion}
use Rattle.teco_model.specs.Arguments.{standing_value}
use Rattle.teco_model.specs.Registers.{empty_pair}
use Rattle.teco_model.specs.Step.{value_for}
use Rattle.teco_model.specs.Storage.{number_in, text_in}
use Rattle.teco_model.specs.declared.kind.Query.TheVariants.{Number, Mode}
use Rattle.teco_model.specs.laws.Whole.{IsWholePair}
use Rattle.teco_query_outcomes.specs.declared.queries.TheConstants.{CHARACTER}
use Rattle.teco_rows.specs.Commands.{IsCommanded}
use Rattle.teco_query_outcomes.proofs.Valuing.{levels_succeed}

-- ---- whether a value stands
pub stands_by : (operator : Option Operator) (x : Option ℤ)
    → is_some (value_beside operator x) ≡ (is_none operator && is_some x)
stands_by None x = refl
stands_by (Some o) x = refl

some_same : (form : Option (List Term)) (n : ℕ) (v : Valuation) → is_some (value_if form n v) ≡ is_some form
some_same None n v = refl
some_same (Some form) n v = refl

pub stands_is : (case : Case) (operator : Option Operator) (form : Option (List Term)) (answer : Bool)
    → answer ≡ (is_none operator && is_some form)
    → ((s : Point) → IsShape case.shape s → operator ≡ s.arguments.level.operator)
    → ((n : ℕ) (v : Valuation) (s : Point) → IsTrueOf n v case s
    → value_if form n v ≡ each s Value (length s.arguments.outer))
    → Stands answer case
stands_is case operator form answer e waits is n v s true_of =
    stands_by s.arguments.level.operator s.arguments.level.value
    ∙ ap (λ o. is_none o && is_some s.arguments.level.value) (sym (waits s true_of.shape))
    ∙ ap (λ x. is_none operator && is_some x) (sym (value_there s) ∙ sym (is n v s true_of))
    ∙ ap (λ b. is_none operator && b) (some_same form n v) ∙ sym e

-- one that stands, and one that does not
stood : (x : Option ℤ) → is_some x ≡ true → (y : ℤ) × (x ≡ Some y)
stood (Some y) e = (y, refl)
stood None e = absurd cc

missing : (x : Option ℤ) → is_some x ≡ false → x ≡ None
missing None e = refl
missing (Some y) e = absurd cc

-- ---- what a register has
all_at : {X : Type 0} (P : X → Type 0) (xs : List X) (d : X) (i : ℕ) → AllByRecursion P xs → P d
    → P (slice_index_or xs i d)
all_at P [] d i h k = k
all_at P (x ∷ xs) d zero h k = h.0
all_at P (x ∷ xs) d (suc i) h k = all_at P xs d i h.1 k

pub whole_pair : (kept : Kept) (r : ℕ) → IsWhole kept → IsWholePair (pair_of r kept.registers)
whole_pair kept r whole = all_at IsWholePair kept.registers.pairs empty_pair r whole.pairs (record {
  number = omega (arith, ints);
  within = omega arith;
  bytes = tt;
})

-- the code of a character is at most 255, and -1 outside
abbrev IsCode : ℤ → Type 0
IsCode x = (negsuc 0 ≤ℤ x) × (x ≤ℤ pos 255)

code_found : (text : List ℕ) (i : ℕ) → AreBytes text
    → IsCode (unwrap_or (option_map pos (slice_get text i)) (negsuc 0))
code_found [] i h = (omega (arith, ints), omega (arith, ints))
code_found (c ∷ text) zero h = let k : c < 256 = h.0 in (omega (arith, ints), omega (arith, ints))
code_found (c ∷ text) (suc i) h = code_found text i h.1

code_is : (text : List ℕ) (x : ℤ) → AreBytes text → IsCode (code_at text x)
code_is text (pos i) h = code_found text i h
code_is text (negsuc i) h = (omega (arith, ints), omega (arith, ints))

-- ---- what is asked where no value stands
pub number_asked : (case : Case) (form : List Term) (register : ℕ) (all : Outcomes) → Stands false case
    → ((n : ℕ) (v : Valuation) (s : Point) → IsTrueOf n v case s → IsWhole s.kept
    → value form n v ≡ number_in register s.kept)
    → Gives form case all → Asks (Number register) 0 case all
number_asked case form register all none same gives e colons n v s begins =
    let P = Succeeds (λ done. Describe n all (behind s done)) in
    subst (λ c. P (after_query_with (Number register) c (value_for (Number register) c s.arguments.level) s.kept
    s.arguments)) (sym colons)
    (subst (λ o. P (after_query_with (Number register) 0 o s.kept s.arguments))
    (sym (missing (standing_value s.arguments.level) (none n v s begins.true_of)))
    (levels_succeed n all s (level_with (number_in register s.kept) s.arguments.level)
    (subst (λ x. Succeeds (λ level. Describe n all (behind s (with_level s level))) (level_with x s.arguments.level))
    (same n v s begins.true_of begins.whole) (gives n v s begins))))

pub length_asked : (case : Case) (form : List Term) (register colons : ℕ) (all : Outcomes) → 1 ≤ colons
    → ((n : ℕ) (v : Valuation) (s : Point) → IsTrueOf n v case s → IsWhole s.kept
    → value form n v ≡ pos (length (text_in register s.kept)))
    → Gives form case all → Asks (Number register) colons case all
length_asked case form register zero all h same gives e same_colons n v s begins = absurd (omega arith)
length_asked case form register (suc k) all h same gives e same_colons n v s begins =
    let P = Succeeds (λ done. Describe n all (behind s done)) in
    subst (λ c. P (after_query_with (Number register) c (value_for (Number register) c s.arguments.level) s.kept
    s.arguments)) (sym same_colons)
    (levels_succeed n all s (level_with (pos (length (text_in register s.kept))) s.arguments.level)
    (subst (λ x. Succeeds (λ level. Describe n all (behind s (with_level s level))) (level_with x s.arguments.level))
    (same n v s begins.true_of begins.whole) (gives n v s begins)))

pub mode_asked : (case : Case) (all : Outcomes) → Stands false case → GivesAny case all → (colons : ℕ)
    → Asks Mode colons case all
mode_asked case all none gives colons e same n v s begins =
    let P = Succeeds (λ done. Describe n all (behind s done)) in
    subst (λ o. P (after_query_with Mode e.colons o s.kept s.arguments))
    (sym (missing (standing_value s.arguments.level) (none n v s begins.true_of)))
    (levels_succeed n all s (level_with s.kept.mode s.arguments.level)
    (gives n v s s.kept.mode begins.true_of begins.whole.mode))

-- ---- what is done with a value that stands
module _ (s : Point) (here : Places) (given : ℕ → ℤ) where
  stays : (answer : Option ℤ) (which : Single)
      → Some (single (commanded s s.kept answer) which) ≡ Some (single (commanded s s.kept None) which)
  stays answer Steps = refl
  stays answer Pointer = refl
  stays answer Size = refl
  stays answer Held = refl
  stays answer LineEnd = refl
  stays answer LineStart = refl
  stays answer LastLength = refl
  stays answer CodeHere = refl
  stays answer CodeBefore = refl
  stays answer Typed = refl
  stays answer EntryHeld = refl

  set_mode : (mode : ℤ) (which : Single)
      → Some (single (commanded s (record s.kept { mode = mode }) None) which)
      ≡ Some (single (commanded s s.kept None) which)
  set_mode mode Steps = refl
  set_mode mode Pointer = refl
  set_mode mode Size = refl
  set_mode mode Held = refl
  set_mode mode LineEnd = refl
  set_mode mode LineStart = refl
  set_mode mode LastLength = refl
  set_mode mode CodeHere = refl
  set_mode mode CodeBefore = refl
  set_mode mode Typed = refl
  set_mode mode EntryHeld = refl

  pub mode_leads : (mode : ℤ) (unknown : ℕ → ℤ)
      → Leads [] (read_at s here given unknown) s (record s.kept { mode = mode }) None
  mode_leads mode unknown = leads [] _ s _ None refl refl refl refl (record {
    met = tt;
    singles = set_mode mode;
    numbers = λ i. refl;
    lengths = λ i. refl;
    values = λ i. refl;
    stack = refl;
  })

  pub character_leads : (x : ℤ) → here.level ≡ length s.arguments.outer → IsCode x
      → Leads CHARACTER (read_at s here given (λ i. x)) s s.kept (Some x)
  character_leads x at is = leads CHARACTER _ s s.kept (Some x) refl refl refl refl (record {
    met = (omega (arith, ints, is.0), (omega (arith, ints, is.1), tt));
    singles = stays (Some x);
    numbers = λ i. refl;
    lengths = λ i. refl;
    values = λ i. answers s s.kept here i x _ at (ap Some (omega (arith, ints)));
    stack = refl;
  })

pub mode_set : (case made : Case) (given : List (List Term)) (here : Places) (wanted : List (List Term))
    (all : Outcomes) → Stands true case → IsCommanded case [] given here made → IsOne wanted made all → (colons : ℕ)
    → Asks Mode colons case all
mode_set case made given here wanted all some led one colons e same n v s begins =
    let P = Succeeds (λ done. Describe n all (behind s done)) in
    let x = stood (standing_value s.arguments.level) (some n v s begins.true_of) in
    subst (λ o. P (after_query_with Mode e.colons o s.kept s.arguments)) (sym x.1)
    (describes_one n wanted made all _ one (led n v s (record s.kept { mode = x.0 }) None (λ i. pos 0) begins.true_of
    (mode_leads s here _ x.0 (λ i. pos 0))))

pub character_asked : (case made : Case) (register : ℕ) (given : List (List Term)) (here : Places)
    (wanted : List (List Term)) (all : Outcomes) → Stands true case → IsAtLevel here case
    → IsCommanded case CHARACTER given here made → IsOne wanted made all → Asks (Number register) 0 case all
character_asked case made register given here wanted all some at led one e same n v s begins =
    let P = Succeeds (λ done. Describe n all (behind s done)) in
    let x = stood (standing_value s.arguments.level) (some n v s begins.true_of) in
    let code = code_at (text_in register s.kept) x.0 in
    subst (λ c. P (after_query_with (Number register) c (value_for (Number register) c s.arguments.level) s.kept
    s.arguments)) (sym same)
    (subst (λ o. P (after_query_with (Number register) 0 o s.kept s.arguments)) (sym x.1)
    (describes_one n wanted made all _ one (led n v s s.kept (Some code) (λ i. code) begins.true_of
    (character_leads s here _ code (at s begins.true_of.shape)
    (code_is (text_in register s.kept) x.0 (whole_pair s.kept register begins.whole).bytes)))))
