-- How all clauses of a row take a case to the one behind it.
use Rattle.teco_rows.proofs.Prelude.{◌≡◌, ℕ, zero, suc, ◌+◌, ◌-◌, ◌<◌, ℤ, pos, ◌+ℤ◌, ◌*ℤ◌, ◌≤ℤ◌, List, [], ◌∷◌, ◌++◌}
use Rattle.teco_rows.proofs.Prelude.{true, false, Option, Some, None, slice_index_or, if◌then◌else◌, nat_lt, unwrap_or}
use Rattle.teco_rows.proofs.Prelude.{◌^◌, length, take, get_or, refl, sym, ap, subst, ◌∙◌, arith, nat_tests, take_more}
use Rattle.teco_rows.proofs.Prelude.{All, Term, Valuation, value, Draft, Case, Measure, Mark, Of, Was, Given, Unknown}
use Rattle.teco_rows.proofs.Prelude.{Clause, Sets, Drops, Wants, RowStep, place, Before, measure_at, is_at, weight}
use Rattle.teco_rows.proofs.Prelude.{sum_of, total, changed, AreMet, Holds, Adds, IsAbout, IsWhole, measures_by}
use Rattle.teco_rows.proofs.Prelude.{read_by, read_with, value_if}
use Rattle.std.proofs.Common.{MatchOption}
use Rattle.std.proofs.lemmas.List.Elements.{All-head, All-tail}
use Rattle.teco_linear.specs.Form.{symbol_value, term_value}
use Rattle.teco_linear.specs.Implied as implied
use Rattle.teco_rows.specs.Rows.{Measures, Multiples}
use Rattle.teco_rows.specs.Cases.{Agree, Fits, IsBelow, IsOptionallyAbout}

-- ---- rows one behind the other
pub changed-append : (r s : List Clause) (b : Before) (m : Measure) (x : Option ℤ)
    → changed (r ++ s) b m x ≡ changed s b m (changed r b m x)
changed-append [] s b m x = refl
changed-append (Sets mark constant parts ∷ r) s b m x =
    changed-append r s b m (if is_at b.here mark m then Some (total b constant parts) else x)
changed-append (Drops mark ∷ r) s b m x = changed-append r s b m (if is_at b.here mark m then None else x)
changed-append (Wants constant parts ∷ r) s b m x = changed-append r s b m x

met-append : (r s : List Clause) (b : Before) → AreMet (r ++ s) b → AreMet r b × AreMet s b
met-append [] s b h = (tt, h)
met-append (Sets mark constant parts ∷ r) s b h = met-append r s b h
met-append (Drops mark ∷ r) s b h = met-append r s b h
met-append (Wants constant parts ∷ r) s b h = let k = met-append r s b h.1 in ((h.0, k.0), k.1)

pub adds_none : (case : Case) (step : RowStep) (draft : Draft) → Adds case step [] draft draft
adds_none case step draft = record { measures = λ n v m. refl; constraints = λ n v holds met. holds }

adds_both : (case : Case) (step : RowStep) (r s : List Clause) (old mid new : Draft) → Adds case step r old mid
    → Adds case step s mid new → Adds case step (r ++ s) old new
adds_both case step r s old mid new one two = record {
  measures = λ n v m.
      two.measures n v m ∙ ap (changed s (read_by case step n v) m) (one.measures n v m)
      ∙ sym (changed-append r s (read_by case step n v) m (measures_by old.forms.items n v m));
  constraints = λ n v holds met.
      let k = met-append r s (read_by case step n v) met in
      two.constraints n v (one.constraints n v holds k.0) k.1;
}

pub adds_more : (case : Case) (step : RowStep) (row : List Clause) (i : ℕ) (d : Clause) (old mid new : Draft)
    → i < length row → Adds case step (take i row) old mid → Adds case step (get_or row i d ∷ []) mid new
    → Adds case step (take (i + 1) row) old new
adds_more case step row i d old mid new h one two =
    subst (λ r. Adds case step r old new) (sym (take_more row i d h))
    (adds_both case step (take i row) (get_or row i d ∷ []) old mid new one two)

-- ---- readings that agree
pub record Alike (a b : Before) : Type 0 where
  pub here : a.here ≡ b.here
  pub weights : (of : Of) → weight a of ≡ weight b of

sums_alike : (a b : Before) → Alike a b → (parts : List (ℤ × Of)) → sum_of a parts ≡ sum_of b parts
sums_alike a b s [] = refl
sums_alike a b s (part ∷ parts) =
    ap (λ w. part.0 *ℤ w +ℤ sum_of a parts) (s.weights part.1)
    ∙ ap (λ z. part.0 *ℤ weight b part.1 +ℤ z) (sums_alike a b s parts)

totals_alike : (a b : Before) → Alike a b → (constant : ℤ) (parts : Multiples)
    → total a constant parts ≡ total b constant parts
totals_alike a b s constant parts =
    ap (λ z. constant +ℤ z) (sums_alike a b s (parts.0 ∷ parts.1 ∷ parts.2 ∷ parts.3 ∷ []))

chosen_alike : (a b : Before) → Alike a b → (mark : Mark) (m : Measure) (x y w z : Option ℤ) → x ≡ y → w ≡ z
    → (if is_at a.here mark m then x else w) ≡ (if is_at b.here mark m then y else z)
chosen_alike a b s mark m x y w z e f =
    ap (λ h. if is_at h mark m then x else w) s.here ∙ ap (λ o. if is_at b.here mark m then o else w) e
    ∙ ap (λ o. if is_at b.here mark m then y else o) f

pub changed_alike : (a b : Before) → Alike a b → (row : List Clause) (m : Measure) (x y : Option ℤ) → x ≡ y
    → changed row a m x ≡ changed row b m y
changed_alike a b s [] m x y e = e
changed_alike a b s (Sets mark constant parts ∷ row) m x y e =
    changed_alike a b s row m _ _
    (chosen_alike a b s mark m (Some (total a constant parts)) (Some (total b constant parts)) x y
    (ap Some (totals_alike a b s constant parts)) e)
changed_alike a b s (Drops mark ∷ row) m x y e =
    changed_alike a b s row m _ _ (chosen_alike a b s mark m None None x y refl e)
changed_alike a b s (Wants constant parts ∷ row) m x y e = changed_alike a b s row m x y e

pub met_alike : (a b : Before) → Alike a b → (row : List Clause) → AreMet row b → AreMet row a
met_alike a b s [] h = tt
met_alike a b s (Sets mark constant parts ∷ row) h = met_alike a b s row h
met_alike a b s (Drops mark ∷ row) h = met_alike a b s row h
met_alike a b s (Wants constant parts ∷ row) h =
    (subst (λ z. pos 0 ≤ℤ z) (sym (totals_alike a b s constant parts)) h.0, met_alike a b s row h.1)

-- ---- forms have the same values where their symbols have
term_same : (symbols : ℕ) (t : Term) (n : ℕ) (v w : Valuation) → Agree symbols v w → IsBelow symbols t
    → term_value t n v ≡ term_value t n w
term_same symbols t n v w agree below =
    let P : Option ℕ → Type 0 = λ o. MatchOption o (Unit {0}) (λ s. s < symbols)
    → symbol_value v o ≡ symbol_value w o in
    let q : P t.symbol = elim t.symbol as P [ None ↦ λ h. refl | Some s ↦ λ h. agree s h ] in
    ap (λ z. t.coefficient *ℤ (pos (n ^ t.power) *ℤ z)) (q below)

pub value_same : (symbols : ℕ) (form : List Term) (n : ℕ) (v w : Valuation) → Agree symbols v w
    → IsAbout symbols form → value form n v ≡ value form n w
value_same symbols [] n v w agree about = refl
value_same symbols (t ∷ form) n v w agree about =
    ap (λ z. z +ℤ value form n v) (term_same symbols t n v w agree (All-head (IsBelow symbols) t form about))
    ∙ ap (λ z. term_value t n w +ℤ z)
    (value_same symbols form n v w agree (All-tail (IsBelow symbols) t form about))

optional_same : (symbols : ℕ) (form : Option (List Term)) (n : ℕ) (v w : Valuation) → Agree symbols v w
    → IsOptionallyAbout symbols form → value_if form n v ≡ value_if form n w
optional_same symbols None n v w agree about = refl
optional_same symbols (Some form) n v w agree about = ap Some (value_same symbols form n v w agree about)

-- a place past the end has no form
in_place : (symbols : ℕ) (forms : List (Option (List Term))) (k : ℕ) → All (IsOptionallyAbout symbols) forms
    → IsOptionallyAbout symbols (slice_index_or forms k None)
in_place symbols [] k h = tt
in_place symbols (form ∷ forms) zero h = All-head (IsOptionallyAbout symbols) form forms h
in_place symbols (form ∷ forms) (suc k) h = in_place symbols forms k (All-tail (IsOptionallyAbout symbols) form forms h)

-- nor is one given
given_same : (symbols : ℕ) (forms : List (List Term)) (k : ℕ) (n : ℕ) (v w : Valuation) → Agree symbols v w
    → All (IsAbout symbols) forms → value (slice_index_or forms k []) n v ≡ value (slice_index_or forms k []) n w
given_same symbols [] k n v w agree h = refl
given_same symbols (form ∷ forms) zero n v w agree h =
    value_same symbols form n v w agree (All-head (IsAbout symbols) form forms h)
given_same symbols (form ∷ forms) (suc k) n v w agree h =
    given_same symbols forms k n v w agree (All-tail (IsAbout symbols) form forms h)

constraints_same : (symbols : ℕ) (forms : List (List Term)) (n : ℕ) (v w : Valuation) → Agree symbols v w
    → All (IsAbout symbols) forms → All (implied.Holds n v) forms → All (implied.Holds n w) forms
constraints_same symbols forms n v w agree about holds k d h =
    subst (λ z. pos 0 ≤ℤ z) (value_same symbols (get_or forms k d) n v w agree (about k d h)) (holds k d h)

-- ---- the symbols of a case keep their values, and the next ones are the unknown numbers
abbrev pub extended : ℕ → Valuation → (ℕ → ℤ) → Valuation
extended symbols v unknown symbol = if nat_lt symbol symbols then v symbol else unknown (symbol - symbols)

extends : (symbols : ℕ) (v : Valuation) (unknown : ℕ → ℤ) → Agree symbols v (extended symbols v unknown)
extends symbols v unknown symbol h =
    let e : nat_lt symbol symbols ≡ true = grind (arith, nat_tests) in
    ap (λ b. if b then v symbol else unknown (symbol - symbols)) (sym e)

extended_by : (symbols : ℕ) (v : Valuation) (unknown : ℕ → ℤ) (i : ℕ)
    → extended symbols v unknown (symbols + i) ≡ unknown i
extended_by symbols v unknown i =
    let e : nat_lt (symbols + i) symbols ≡ false = grind (arith, nat_tests) in
    let d : symbols + i - symbols ≡ i = omega arith in
    ap (λ b. if b then v (symbols + i) else unknown (symbols + i - symbols)) e ∙ ap unknown d

-- the parts of a case that is made
pub record IsCopy (case : Case) (draft : Draft) : Type 0 where
  pub forms : (n : ℕ) (v : Valuation) (k : ℕ)
      → value_if (slice_index_or draft.forms.items k None) n v
      ≡ value_if (slice_index_or case.forms.items k None) n v
  pub constraints : (n : ℕ) (v : Valuation)
      → All (implied.Holds n v) case.constraints.items → All (implied.Holds n v) draft.constraints.items

module _ (case : Case) (step : RowStep) (whole : IsWhole case) (about : All (IsAbout case.symbols) step.given.now) where
  module _ (n : ℕ) (v : Valuation) (old new : Measures) (unknown : ℕ → ℤ) (fits : Fits n v case old) where
    w : Valuation
    w = extended case.symbols v unknown

    agree : Agree case.symbols v w
    unfolding w
    agree = extends case.symbols v unknown

    measures_same : (m : Measure) → measures_by case.forms.items n w m ≡ old m
    measures_same m =
        sym (optional_same case.symbols _ n v w agree (in_place case.symbols case.forms.items (place m) whole.forms))
        ∙ fits.measures m

    weights_same : (of : Of) → weight (read_by case step n w) of ≡ weight (read_with step n v old unknown) of
    unfolding w
    weights_same (Was mark) = ap (λ o. unwrap_or o (pos 0)) (measures_same (measure_at step.here mark))
    weights_same (Given i) = sym (given_same case.symbols step.given.now i n v w agree about)
    weights_same (Unknown i) = extended_by case.symbols v unknown i

    alike : Alike (read_by case step n w) (read_with step n v old unknown)
    alike = record { here = refl; weights = weights_same }

    pub carried_at : (start draft : Draft) (after : Case) → IsCopy case start
        → Adds case step step.clauses.now start draft → after.forms.items ≡ draft.forms.items
        → after.constraints.items ≡ draft.constraints.items
        → Holds step.clauses.now (read_with step n v old unknown) new
        → (u : Valuation) × Agree case.symbols v u × Fits n u after new
    carried_at start draft after copy adds forms constraints holds = (
      w,
      agree,
      record {
        measures = λ m.
            ap (λ fs. measures_by fs n w m) forms ∙ adds.measures n w m
            ∙ changed_alike (read_by case step n w) (read_with step n v old unknown) alike step.clauses.now m _ (old m)
            (copy.forms n w (place m) ∙ measures_same m)
            ∙ sym (holds.becomes m);
        constraints =
            subst (All (implied.Holds n w)) (sym constraints)
            (adds.constraints n w
            (copy.constraints n w
            (constraints_same case.symbols case.constraints.items n v w agree whole.constraints fits.constraints))
            (met_alike (read_by case step n w) (read_with step n v old unknown) alike step.clauses.now holds.met));
      },
    )
