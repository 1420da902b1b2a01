-- What a clause makes of a case that is being made.
use Rattle.teco_rows.proofs.Prelude.{◌≡◌, ℕ, ◌+◌, ◌*◌, ◌<◌, ◌==◌, ◌&&◌, ℤ, pos, ◌≤ℤ◌, List, [], ◌∷◌, ◌++◌, Bool, true}
use Rattle.teco_rows.proofs.Prelude.{false, Option, Some, None, slice_index_or, if◌then◌else◌, refl, sym, ap, subst}
use Rattle.teco_rows.proofs.Prelude.{◌∙◌, arith, nat_tests, All, Term, Valuation, value, Draft, Case, Single, Steps}
use Rattle.teco_rows.proofs.Prelude.{Pointer, Size, Held, LineEnd, LineStart, LastLength, CodeHere, CodeBefore, Typed}
use Rattle.teco_rows.proofs.Prelude.{EntryHeld}
use Rattle.teco_rows.proofs.Prelude.{Family, Number, Length, Turns, PushedNumber, PushedLength, First, Value, Measure}
use Rattle.teco_rows.proofs.Prelude.{Mark, Clause, Sets, Drops, Wants, Places, RowStep, family_code, place}
use Rattle.teco_rows.proofs.Prelude.{index_at, measure_at, is_at, total, Adds, measures_by, read_by, value_if}
use Rattle.std.proofs.lemmas.List.Elements.{All-append, All-cons, All-nil}
use Rattle.teco_linear.specs.Implied as implied
use Rattle.teco_rows.specs.declared.measure.Measure.TheVariants as measure
use Rattle.teco_rows.specs.declared.row.Mark.TheVariants.{One, Here}
use Rattle.teco_rows.specs.Measures.{single_code}
use Rattle.teco_rows.specs.Rows.{Multiples}

single_below : (s : Single) → single_code s < 11
single_below Steps = omega arith
single_below Pointer = omega arith
single_below Size = omega arith
single_below Held = omega arith
single_below LineEnd = omega arith
single_below LineStart = omega arith
single_below LastLength = omega arith
single_below CodeHere = omega arith
single_below CodeBefore = omega arith
single_below Typed = omega arith
single_below EntryHeld = omega arith

family_below : (f : Family) → family_code f < 7
family_below Number = omega arith
family_below Length = omega arith
family_below Turns = omega arith
family_below PushedNumber = omega arith
family_below PushedLength = omega arith
family_below First = omega arith
family_below Value = omega arith

apart : (a b i : ℕ) → a < 11 → (a == 11 + 7 * i + b) ≡ false
apart a b i h = grind (arith, nat_tests)

apart_back : (a b i : ℕ) → a < 11 → (11 + 7 * i + b == a) ≡ false
apart_back a b i h = grind (arith, nat_tests)

together : (a b i j : ℕ) → a < 7 → b < 7 → (11 + 7 * i + a == 11 + 7 * j + b) ≡ (a == b) && (i == j)
together a b i j h k = grind (arith, nat_tests)

-- two measures stand in one place where they are one
pub placed : (here : Places) (mark : Mark) (m : Measure)
    → (place (measure_at here mark) == place m) ≡ is_at here mark m
placed here (One a) (measure.One b) = refl
placed here (One a) (measure.Each g i) = apart (single_code a) (family_code g) i (single_below a)
placed here (Here f) (measure.One b) = apart_back (single_code b) (family_code f) (index_at here f) (single_below b)
placed here (Here f) (measure.Each g i) =
    together (family_code f) (family_code g) (index_at here f) i (family_below f) (family_below g)

picked : (a b : Bool) (form old : Option (List Term)) (x : Option ℤ) (n : ℕ) (v : Valuation) → a ≡ b
    → value_if form n v ≡ x → value_if (if a then form else old) n v ≡ (if b then x else value_if old n v)
picked true true form old x n v e h = h
picked false false form old x n v e h = refl
picked true false form old x n v e h = cc
picked false true form old x n v e h = cc

-- a form is put into the place of a mark
pub put_is : (forms old : List (Option (List Term))) (form : Option (List Term)) (here : Places) (mark : Mark) (at : ℕ)
    (x : Option ℤ) → at ≡ place (measure_at here mark)
    → ((k : ℕ) → slice_index_or forms k None ≡ (if at == k then form else slice_index_or old k None))
    → (n : ℕ) (v : Valuation) → value_if form n v ≡ x → (m : Measure)
    → measures_by forms n v m ≡ (if is_at here mark m then x else measures_by old n v m)
put_is forms old form here mark at x e put n v h m =
    ap (λ o. value_if o n v) (put (place m))
    ∙ picked (at == place m) (is_at here mark m) form (slice_index_or old (place m) None) x n v
    (ap (λ k. k == place m) e ∙ placed here mark m) h

pub adds_set : (case : Case) (step : RowStep) (clause : Clause) (old new : Draft) (mark : Mark) (constant : ℤ)
    (parts : Multiples) (form : List Term) (at : ℕ) (k : ℤ) → Sets mark constant parts ≡ clause → k ≡ constant
    → ((n : ℕ) (v : Valuation) → value form n v ≡ total (read_by case step n v) k parts)
    → at ≡ place (measure_at step.here mark)
    → ((k : ℕ) → slice_index_or new.forms.items k None
    ≡ (if at == k then Some form else slice_index_or old.forms.items k None))
    → new.constraints.items ≡ old.constraints.items
    → Adds case step (clause ∷ []) old new
adds_set case step clause old new mark constant parts form at k e k_is value_is at_is put same =
    subst (λ c. Adds case step (c ∷ []) old new) e (record {
      measures = λ n v m.
          put_is new.forms.items old.forms.items (Some form) step.here mark at
          (Some (total (read_by case step n v) constant parts)) at_is put n v
          (ap Some (value_is n v ∙ ap (λ z. total (read_by case step n v) z parts) k_is)) m;
      constraints = λ n v holds met. subst (All (implied.Holds n v)) (sym same) holds;
    })

pub adds_drop : (case : Case) (step : RowStep) (clause : Clause) (old new : Draft) (mark : Mark) (at : ℕ)
    → Drops mark ≡ clause → at ≡ place (measure_at step.here mark)
    → ((k : ℕ) → slice_index_or new.forms.items k None
    ≡ (if at == k then None else slice_index_or old.forms.items k None))
    → new.constraints.items ≡ old.constraints.items
    → Adds case step (clause ∷ []) old new
adds_drop case step clause old new mark at e at_is put same =
    subst (λ c. Adds case step (c ∷ []) old new) e (record {
      measures = λ n v m.
          put_is new.forms.items old.forms.items None step.here mark at None at_is put n v refl m;
      constraints = λ n v holds met. subst (All (implied.Holds n v)) (sym same) holds;
    })

pub adds_want : (case : Case) (step : RowStep) (clause : Clause) (old new : Draft) (constant : ℤ) (parts : Multiples)
    (form : List Term) (k : ℤ) → Wants constant parts ≡ clause → k ≡ constant
    → ((n : ℕ) (v : Valuation) → value form n v ≡ total (read_by case step n v) k parts)
    → new.forms.items ≡ old.forms.items → new.constraints.items ≡ old.constraints.items ++ form ∷ []
    → Adds case step (clause ∷ []) old new
adds_want case step clause old new constant parts form k e k_is value_is forms same =
    subst (λ c. Adds case step (c ∷ []) old new) e (record {
      measures = λ n v m. ap (λ fs. measures_by fs n v m) forms;
      constraints = λ n v holds met.
          subst (All (implied.Holds n v)) (sym same)
          (All-append (implied.Holds n v) old.constraints.items (form ∷ []) holds
          (All-cons (implied.Holds n v) form []
          (subst (λ z. pos 0 ≤ℤ z) (sym (value_is n v ∙ ap (λ z. total (read_by case step n v) z parts) k_is)) met.0)
          (All-nil (implied.Holds n v))));
    })
