-- U and %.
use Rattle.teco_command_outcomes.proofs.Prelude.{◌≡◌, ℕ, ◌<◌, ◌==◌, ℤ, pos, ◌+ℤ◌, List, [], ◌∷◌, length, Ok, subst}
use Rattle.teco_command_outcomes.proofs.Prelude.{unwrap_or, Option, Some, None, if◌then◌else◌, slice_get, refl, sym, ap}
use Rattle.teco_command_outcomes.proofs.Prelude.{◌∙◌, arith, FitsSigned, ints, All, REGISTERS, Kept, Term, Valuation}
use Rattle.teco_command_outcomes.proofs.Prelude.{value, ◌>>=◌, needed_value, no_answer, with_answer, Element, storage}
use Rattle.teco_command_outcomes.proofs.Prelude.{IsWhole, Single, Steps, Pointer, Size, Held, LineEnd, LineStart}
use Rattle.teco_command_outcomes.proofs.Prelude.{LastLength, CodeHere, CodeBefore, Typed, EntryHeld, Case, TakenForms}
use Rattle.teco_command_outcomes.proofs.Prelude.{Outcomes}
use Rattle.teco_command_outcomes.proofs.Prelude.{value_if, IsOne, Places, Point, IsTrueOf, single, number_of, length_of}
use Rattle.teco_command_outcomes.proofs.Prelude.{IsAtLevel, IsCommanded, Leads, Performs, commanded, read_at, leads}
use Rattle.teco_command_outcomes.proofs.Prelude.{answers, performed, by_row}
use Rattle.std.proofs.Common.{w32}
use Rattle.std.proofs.lemmas.Int.{SFits-int_wrap, int_wrap_fits}
use Rattle.teco_base.specs.Arithmetic.{add, in_32_bits}
use Rattle.teco_linear.specs.Implied as linear
use Rattle.teco_model.specs.Storage.{kept_with_number, number_in}
use Rattle.teco_model.specs.declared.kind.Storage.TheVariants.{SetNumber, Add}
use Rattle.teco_command_outcomes.specs.declared.storages.TheConstants.{STORES, ADDS, ADDS_WRAPPED}
use Rattle.teco_rows.proofs.Registering.{number_set, lengths_stay}

module _ (s : Point) (here : Places) (given unknown : ℕ → ℤ) (x : ℤ) (whole : IsWhole s.kept)
    (in' : here.register < REGISTERS) where
  -- what is stored
  abbrev kept : Kept
  kept = kept_with_number here.register x s.kept

  stored : (i : ℕ) (y : Option ℤ) → Some x ≡ y
      → number_of (slice_get kept.registers.pairs i)
      ≡ (if here.register == i then y else number_of (slice_get s.kept.registers.pairs i))
  stored i y e = number_set s.kept.registers.pairs here.register i _ y (omega (arith, whole.count)) e

  singles : (answer : Option ℤ) (which : Single)
      → Some (single (commanded s kept answer) which) ≡ Some (single (commanded s s.kept None) which)
  singles answer Steps = refl
  singles answer Pointer = refl
  singles answer Size = refl
  singles answer Held = refl
  singles answer LineEnd = refl
  singles answer LineStart = refl
  singles answer LastLength = refl
  singles answer CodeHere = refl
  singles answer CodeBefore = refl
  singles answer Typed = refl
  singles answer EntryHeld = refl

  lengths : (i : ℕ)
      → length_of (slice_get kept.registers.pairs i) ≡ length_of (slice_get s.kept.registers.pairs i)
  lengths i = lengths_stay s.kept.registers.pairs here.register i x

  pub stores_lead : given 0 ≡ x → Leads STORES (read_at s here given unknown) s kept None
  stores_lead e = leads STORES _ s _ None refl refl refl refl (record {
    met = tt;
    singles = singles None;
    numbers = λ i. stored i _ (ap Some (omega (arith, ints)));
    lengths = lengths;
    values = λ i. refl;
    stack = refl;
  })

  pub adds_lead : here.level ≡ length s.arguments.outer → given 0 ≡ x
      → Leads ADDS (read_at s here given unknown) s kept (Some x)
  adds_lead at e = leads ADDS _ s _ (Some x) refl refl refl refl (record {
    met = tt;
    singles = singles (Some x);
    numbers = λ i. stored i _ (ap Some (omega (arith, ints)));
    lengths = lengths;
    values = λ i. answers s kept here i x _ at (ap Some (omega (arith, ints)));
    stack = refl;
  })

  pub adds_wrapped_lead : here.level ≡ length s.arguments.outer → unknown 0 ≡ x → FitsSigned w32 x
      → Leads ADDS_WRAPPED (read_at s here given unknown) s kept (Some x)
  adds_wrapped_lead at e fits = leads ADDS_WRAPPED _ s _ (Some x) refl refl refl refl (record {
    met = (omega (arith, ints), (omega (arith, ints), tt));
    singles = singles (Some x);
    numbers = λ i. stored i _ (ap Some (omega (arith, ints)));
    lengths = lengths;
    values = λ i. answers s kept here i x _ at (ap Some (omega (arith, ints)));
    stack = refl;
  })

-- ---- what is performed
pub sets_number : (case after : Case) (taken : TakenForms) (register : ℕ) (here : Places) (form : List Term)
    (wanted : List (List Term)) (all : Outcomes) (e : Element) → here.register ≡ register → here.register < REGISTERS
    → taken.value ≡ Some form → IsCommanded case STORES (form ∷ []) here after → IsOne wanted after all
    → Performs (storage (SetNumber register) e) taken case all
sets_number case after taken register here form wanted all e at in' value_is led one =
    subst (λ r. Performs (storage (SetNumber r) e) taken case all) at (λ n v s begins.
    let x = value form n v in
    performed n all s _ (no_answer (kept_with_number here.register x s.kept))
    (ap (λ o. needed_value (value_if o n v) >>= (λ m. Ok (no_answer (kept_with_number here.register m s.kept))))
    value_is)
    (by_row n v case after STORES (form ∷ []) here all [] [] s _ None (λ i. pos 0) led one.cases begins.true_of
    (stores_lead s here _ _ x begins.whole in' refl)))

-- what is added is the value, or 1
abbrev pub IsAddend : Option (List Term) → List Term → Type 0
IsAddend taken form =
    (n : ℕ) (v : Valuation) → value form n v ≡ unwrap_or (value_if taken n v) (pos 1)

module _ (case after : Case) (taken : TakenForms) (register : ℕ) (here : Places) (wanted : List (List Term))
    (all : Outcomes)
    (e : Element) (at : here.register ≡ register) (in' : here.register < REGISTERS) (level : IsAtLevel here case)
    (one : IsOne wanted after all) where
  -- the sum that is stored
  abbrev sum_at : ℕ → Valuation → Point → ℤ
  sum_at n v s = add (number_in here.register s.kept) (unwrap_or (value_if taken.value n v) (pos 1))

  pub adds_number : (number addend sum : List Term) → IsAddend taken.value addend
      → ((n : ℕ) (v : Valuation) (s : Point) → IsTrueOf n v case s → IsWhole s.kept
      → value number n v ≡ number_in register s.kept)
      → ((n : ℕ) (v : Valuation) → value sum n v ≡ value number n v +ℤ value addend n v)
      → ((n : ℕ) (v : Valuation) → All (linear.Holds n v) wanted → FitsSigned w32 (value sum n v))
      → IsCommanded case ADDS (sum ∷ []) here after → Performs (storage (Add register) e) taken case all
  adds_number number addend sum added number_is sum_is fits led =
      subst (λ r. Performs (storage (Add r) e) taken case all) at (λ n v s begins.
      let x = sum_at n v s in
      let fit = fits n v (subst (All (linear.Holds n v)) one.conditions begins.conditions) in
      let left = number_is n v s begins.true_of begins.whole ∙ ap (λ r. number_in r s.kept) (sym at) in
      let same : value sum n v ≡ x =
      sym (int_wrap_fits w32 (value sum n v) fit)
      ∙ ap in_32_bits (sum_is n v ∙ ap (λ z. z +ℤ value addend n v) left
      ∙ ap (λ z. number_in here.register s.kept +ℤ z) (added n v)) in
      performed n all s _ (with_answer x (kept_with_number here.register x s.kept)) refl
      (by_row n v case after ADDS (sum ∷ []) here all [] [] s _ (Some x) (λ i. pos 0) led one.cases begins.true_of
      (adds_lead s here _ _ x begins.whole in' (level s begins.true_of.shape) same)))

  pub adds_wrapped_number : IsCommanded case ADDS_WRAPPED [] here after
      → Performs (storage (Add register) e) taken case all
  adds_wrapped_number led =
      subst (λ r. Performs (storage (Add r) e) taken case all) at (λ n v s begins.
      let x = sum_at n v s in
      performed n all s _ (with_answer x (kept_with_number here.register x s.kept)) refl
      (by_row n v case after ADDS_WRAPPED [] here all [] [] s _ (Some x) (λ i. x) led one.cases begins.true_of
      (adds_wrapped_lead s here _ _ x begins.whole in' (level s begins.true_of.shape) refl
      (SFits-int_wrap w32 _))))
