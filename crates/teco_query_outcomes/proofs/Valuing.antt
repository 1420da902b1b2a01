-- B, Z, . and ^S.
use Rattle.teco_query_outcomes.proofs.Prelude.{◌≡◌, ℕ, ℤ, pos, neg_ℤ, ◌+ℤ◌, ◌-ℤ◌, List, [], length, Result, Ok, Err}
use Rattle.teco_query_outcomes.proofs.Prelude.{refl}
use Rattle.teco_query_outcomes.proofs.Prelude.{sym, ap, subst, ◌∙◌, arith, FitsSigned, w32, ints, Code, Term, Valuation}
use Rattle.teco_query_outcomes.proofs.Prelude.{value, level_with, ◌>>=◌, after, after_value, Level, IsWhole, Case}
use Rattle.teco_query_outcomes.proofs.Prelude.{Outcomes}
use Rattle.teco_query_outcomes.proofs.Prelude.{Point, IsTrueOf, behind, Describe, Foretells, Gives, Succeeds}
use Rattle.teco_query_outcomes.proofs.Prelude.{with_level}
use Rattle.std.proofs.lemmas.Int.{int_wrap_fits}
use Rattle.teco_base.specs.Arithmetic.{add}
use Rattle.teco_model.specs.Arguments.{level_with_pair}
use Rattle.teco_model.specs.Step.{level_with_value}
use Rattle.teco_model.specs.declared.kind.MachineValue.{MachineValue}
use Rattle.teco_model.specs.declared.kind.MachineValue.TheVariants.{Begin, Size, Pointer, Whole, LastLength, LastText}
use Rattle.teco_rows.specs.Levels.{GivesPair}

-- a form is the number that a value gives
pub record IsValue (kind : MachineValue) (form : List Term) (case : Case) : Type 0 where
  pub number : Point → ℤ
  pub gives : (s : Point) → level_with_value kind s.kept s.arguments.level ≡ level_with (number s) s.arguments.level
  pub same : (n : ℕ) (v : Valuation) (s : Point) → IsTrueOf n v case s → value form n v ≡ number s

pub levels_succeed : (n : ℕ) (all : Outcomes) (s : Point) (r : Result Level Code)
    → Succeeds (λ level. Describe n all (behind s (with_level s level))) r
    → Succeeds (λ done. Describe n all (behind s done))
    ((r >>= (λ level. Ok (record s.arguments { level = level }))) >>= (λ levels. Ok (after s.kept levels)))
levels_succeed n all s (Ok level) d = d
levels_succeed n all s (Err c) d = d

pub value_foretold : (kind : MachineValue) (form : List Term) (case : Case) (all : Outcomes) → IsValue kind form case
    → Gives form case all → Foretells (λ s. after_value kind s.kept s.arguments) case all
value_foretold kind form case all is gives n v s begins =
    levels_succeed n all s (level_with_value kind s.kept s.arguments.level)
    (subst (Succeeds (λ level. Describe n all (behind s (with_level s level)))) (sym (is.gives s))
    (subst (λ x. Succeeds (λ level. Describe n all (behind s (with_level s level))) (level_with x s.arguments.level))
    (is.same n v s begins.true_of) (gives n v s begins)))

pub begin_value : (case : Case) (form : List Term) → form ≡ [] → IsValue Begin form case
begin_value case form e = record {
  number = λ s. pos 0;
  gives = λ s. refl;
  same = λ n v s h. ap (λ f. value f n v) e;
}

pub size_value : (case : Case) (form : List Term)
    → ((n : ℕ) (v : Valuation) (s : Point) → IsTrueOf n v case s → value form n v ≡ pos (length s.kept.text))
    → IsValue Size form case
size_value case form h = record {
  number = λ s. pos (length s.kept.text);
  gives = λ s. refl;
  same = h;
}

pub pointer_value : (case : Case) (form : List Term)
    → ((n : ℕ) (v : Valuation) (s : Point) → IsTrueOf n v case s → value form n v ≡ pos s.kept.pointer)
    → IsValue Pointer form case
pointer_value case form h = record {
  number = λ s. pos s.kept.pointer;
  gives = λ s. refl;
  same = h;
}

pub last_value : (case : Case) (zero length minus : List Term) → zero ≡ []
    → ((n : ℕ) (v : Valuation) (s : Point) → IsTrueOf n v case s → value length n v ≡ pos s.kept.last_length)
    → ((n : ℕ) (v : Valuation) → value minus n v ≡ value zero n v -ℤ value length n v) → IsValue LastLength minus case
last_value case zero length minus e h f = record {
  number = λ s. neg_ℤ (pos s.kept.last_length);
  gives = λ s. refl;
  same = λ n v s t. omega (arith, ints, f n v, ap (λ x. value x n v) e, h n v s t);
}

-- ---- pairs
-- two forms are the numbers that a value gives
pub record IsPairValue (kind : MachineValue) (first second : List Term) (case : Case) : Type 0 where
  pub one : Point → ℤ
  pub other : Point → ℤ
  pub gives :
      (s : Point)
      → level_with_value kind s.kept s.arguments.level ≡ level_with_pair (one s) (other s) s.arguments.level
  pub same_one : (n : ℕ) (v : Valuation) (s : Point) → IsTrueOf n v case s → IsWhole s.kept → value first n v ≡ one s
  pub same_other : (n : ℕ) (v : Valuation) (s : Point) → IsTrueOf n v case s → value second n v ≡ other s

pub pair_foretold : (kind : MachineValue) (first second : List Term) (case : Case) (all : Outcomes)
    → IsPairValue kind first second case → GivesPair first second case all
    → Foretells (λ s. after_value kind s.kept s.arguments) case all
pair_foretold kind first second case all is gives n v s begins =
    levels_succeed n all s (level_with_value kind s.kept s.arguments.level)
    (subst (Succeeds (λ level. Describe n all (behind s (with_level s level)))) (sym (is.gives s))
    (subst (λ x. Succeeds (λ level. Describe n all (behind s (with_level s level)))
    (level_with_pair x (is.other s) s.arguments.level)) (is.same_one n v s begins.true_of begins.whole)
    (subst (λ y. Succeeds (λ level. Describe n all (behind s (with_level s level)))
    (level_with_pair (value first n v) y s.arguments.level)) (is.same_other n v s begins.true_of)
    (gives n v s begins))))

pub whole_value : (case : Case) (zero size : List Term) → zero ≡ []
    → ((n : ℕ) (v : Valuation) (s : Point) → IsTrueOf n v case s → value size n v ≡ pos (length s.kept.text))
    → IsPairValue Whole zero size case
whole_value case zero size e h = record {
  one = λ s. pos 0;
  other = λ s. pos (length s.kept.text);
  gives = λ s. refl;
  same_one = λ n v s t w. ap (λ f. value f n v) e;
  same_other = h;
}

pub text_value : (case : Case) (pointer length begin : List Term)
    → ((n : ℕ) (v : Valuation) (s : Point) → IsTrueOf n v case s → value pointer n v ≡ pos s.kept.pointer)
    → ((n : ℕ) (v : Valuation) (s : Point) → IsTrueOf n v case s → value length n v ≡ pos s.kept.last_length)
    → ((n : ℕ) (v : Valuation) → value begin n v ≡ value pointer n v -ℤ value length n v)
    → IsPairValue LastText begin pointer case
text_value case pointer length begin p m f = record {
  one = λ s. add (pos s.kept.pointer) (neg_ℤ (pos s.kept.last_length));
  other = λ s. pos s.kept.pointer;
  gives = λ s. refl;
  same_one = λ n v s t w.
      let same : value begin n v ≡ pos s.kept.pointer +ℤ neg_ℤ (pos s.kept.last_length) =
      omega (arith, ints, f n v, p n v s t, m n v s t) in
      let fits : FitsSigned w32 (pos s.kept.pointer +ℤ neg_ℤ (pos s.kept.last_length)) =
      omega (arith, ints, w.within, w.inside, w.last) in
      same ∙ sym (int_wrap_fits w32 (pos s.kept.pointer +ℤ neg_ℤ (pos s.kept.last_length)) fits);
  same_other = p;
}
