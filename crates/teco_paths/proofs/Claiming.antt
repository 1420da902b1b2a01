-- Cut points and cases.
use Rattle.teco_paths.proofs.Prelude.{◌≡◌, ℕ, refl, sym, ap, ◌∙◌, subst, arith, List, ◌++◌, Bool, Option, Some, None}
use Rattle.teco_paths.proofs.Prelude.{pos, ◌≤ℤ◌, ◌-ℤ◌, is_some, unwrap_or, ints, All, Term, Valuation, value, values}
use Rattle.teco_paths.proofs.Prelude.{Holds, Implies, Case, value_if, place, Point, IsShape, IsTrueOf, Describes}
use Rattle.teco_paths.proofs.Prelude.{single, Typed, CutState, AreFilled, ArePresent, AreSymbols, ComesTo, filled_by}
use Rattle.teco_paths.proofs.Prelude.{IsFact, Course, IsWithin, most_with, TypesNoMore, measure_of, numbers_of}
use Rattle.teco_paths.proofs.Prelude.{Polynomial, EntryHeld, GrowsNoMore, IsSmall}
use Rattle.std.specs.Prelude.{◌+◌, ◌≤◌, ◌+ℤ◌, length, slice_index_or}
use Rattle.teco_rows.specs.declared.measure.Single.TheVariants.{Held}
use Rattle.teco_rows.specs.declared.case.Shape.{Shape}
use Rattle.teco_rows.specs.declared.measure.Single.{Single}
use Rattle.teco_paths.specs.Claims.{AreClaimed, AreKnown, ClaimHolds}
use Rattle.teco_paths.specs.Claims.{HasPresent}
use Rattle.teco_paths.proofs.Lists.{all_joined}
use Rattle.teco_paths.proofs.Symbols.{marked, place_again, value_same}
use Rattle.teco_poly.specs.Polynomial as poly

-- a case of symbols is true of a state that is as a cut point says
pub case_holds : (cut : CutState) (case : Case) (n : ℕ) (s : Point)
    → AreSymbols cut.present.items case.forms.items
    → All (Holds n (numbers_of s)) case.constraints.items
    → IsShape case.shape s → AreClaimed n cut s → IsTrueOf n (numbers_of s) case s
case_holds cut case n s symbols constraints shape claimed = record {
  fits = record {
    measures = λ m. symbols n (numbers_of s) (place m) ∙ marked cut.present.items s m (claimed.present m);
    constraints = constraints;
  };
  shape = shape;
}

some_value : (o : Option (List Term)) (n : ℕ) (v : Valuation) → is_some (value_if o n v) ≡ is_some o
some_value None n v = refl
some_value (Some form) n v = refl

pub filled_value : (o : Option (List Term)) (n : ℕ) (v : Valuation)
    → value (filled_by o) n v ≡ unwrap_or (value_if o n v) (pos 0)
filled_value None n v = refl
filled_value (Some form) n v = refl

module _ (case : Case) (n : ℕ) (v : Valuation) (s : Point) (true_of : IsTrueOf n v case s) where
  pub has_present : (present : List Bool) → ArePresent present case.forms.items → HasPresent present s
  has_present present are m =
      ap is_some (sym (true_of.fits.measures m))
      ∙ some_value (slice_index_or case.forms.items (place m) None) n v ∙ sym (are (place m))

  -- with the forms in place of its symbols a claim is that of the state's numbers
  same_number : (filled : List (List Term)) → AreFilled case.forms.items filled → (k : ℕ)
      → values filled n v k ≡ numbers_of s k
  same_number filled are k =
      are n v k ∙ filled_value (slice_index_or case.forms.items k None) n v
      ∙ ap (λ j. unwrap_or (value_if (slice_index_or case.forms.items j None) n v) (pos 0)) (sym (place_again k))
      ∙ ap (λ o. unwrap_or o (pos 0)) (true_of.fits.measures (measure_of k))

  pub claims_hold : (filled claims : List (List Term)) → AreFilled case.forms.items filled
      → All (Holds n (values filled n v)) claims → All (ClaimHolds n s) claims
  claims_hold filled claims are h k d l =
      subst (λ x. pos 0 ≤ℤ x)
      (value_same (slice_index_or claims k d) n (values filled n v) (numbers_of s) (same_number filled are)) (h k d l)

-- the whole of a cut point
pub comes : (case : Case) (cut : CutState) (filled : List (List Term))
    → case.shape.operators.items ≡ cut.shape.operators.items → case.shape.iterations ≡ cut.shape.iterations
    → case.shape.pushes ≡ cut.shape.pushes → ArePresent cut.present.items case.forms.items
    → AreFilled case.forms.items filled
    → ((n : ℕ) (v : Valuation) → All (Holds n v) case.constraints.items
    → All (Holds n (values filled n v)) cut.claims.items)
    → ComesTo case cut
comes case cut filled operators iterations pushes present are claims n v s true_of = record {
  shape = record {
    operators = sym operators ∙ true_of.shape.operators;
    iterations = sym iterations ∙ true_of.shape.iterations;
    pushes = ap (λ k. s.origin.pushes + k) (sym pushes) ∙ true_of.shape.pushes;
  };
  present = has_present case n v s true_of cut.present.items present;
  claims = claims_hold case n v s true_of filled cut.claims.items are (claims n v true_of.fits.constraints);
}

-- a form that is implied bounds a measure of a state
pub measure_within : (case : Case) (which : Single) (most : Polynomial) (bound measured difference : List Term)
    → ((n : ℕ) (v : Valuation) → value bound n v ≡ pos (poly.value most n))
    → ((n : ℕ) (v : Valuation) (s : Point) → IsTrueOf n v case s → value measured n v ≡ single s which)
    → ((n : ℕ) (v : Valuation) → value difference n v ≡ value bound n v -ℤ value measured n v)
    → Implies case.constraints.items difference → (n : ℕ) (s : Point) → Describes n case s
    → single s which ≤ℤ pos (poly.value most n)
measure_within case which most bound measured difference bound_is measured_is difference_is implied n s d =
    let holds : pos 0 ≤ℤ value difference n d.0 = implied n d.0 d.1.fits.constraints in
    omega (arith, ints, holds, bound_is n d.0, measured_is n d.0 s d.1, difference_is n d.0)

-- and what the measure is
pub number_within : (case : Case) (most : ℕ → ℕ) (number : Point → ℕ)
    → ((n : ℕ) (s : Point) → Describes n case s → pos (number s) ≤ℤ pos (most n))
    → (n : ℕ) (s : Point) → Describes n case s → number s ≤ most n
number_within case most number within n s d = omega (arith, ints, within n s d)

-- how many bytes are typed, where that is bounded
pub types_within : (course : Course) (case : Case) (most : Polynomial) → course.types ≡ Some most
    → ((n : ℕ) (s : Point) → Describes n case s → single s Typed ≤ℤ pos (poly.value most n)) → TypesNoMore course case
types_within course case most some within n s d =
    subst (λ types. IsWithin (most_with types n s.origin.typed) (length s.kept.typed)) (sym some)
    (omega (arith, ints, within n s d))

-- what is held, by what was held at the entry
pub grown_within : (case : Case) (more : Polynomial) (bound before most held difference : List Term)
    → ((n : ℕ) (v : Valuation) → value bound n v ≡ pos (poly.value more n))
    → ((n : ℕ) (v : Valuation) (s : Point) → IsTrueOf n v case s → value before n v ≡ single s EntryHeld)
    → ((n : ℕ) (v : Valuation) → value most n v ≡ value before n v +ℤ value bound n v)
    → ((n : ℕ) (v : Valuation) (s : Point) → IsTrueOf n v case s → value held n v ≡ single s Held)
    → ((n : ℕ) (v : Valuation) → value difference n v ≡ value most n v -ℤ value held n v)
    → Implies case.constraints.items difference → (n : ℕ) (s : Point) → Describes n case s
    → single s Held ≤ℤ (single s EntryHeld +ℤ pos (poly.value more n))
grown_within case more bound before most held difference bound_is before_is most_is held_is difference_is implied n s
    d =
    let holds : pos 0 ≤ℤ value difference n d.0 = implied n d.0 d.1.fits.constraints in
    omega (
      arith,
      ints,
      holds,
      bound_is n d.0,
      before_is n d.0 s d.1,
      most_is n d.0,
      held_is n d.0 s d.1,
      difference_is n d.0,
    )

-- how much longer the text gets, where that is bounded, and where it is not
pub grows_within : (course : Course) (case : Case) (more : Polynomial) → course.grows ≡ Some more
    → ((n : ℕ) (s : Point) → Describes n case s
    → single s Held ≤ℤ (single s EntryHeld +ℤ pos (poly.value more n)))
    → GrowsNoMore course case
grows_within course case more some within n s d =
    subst (λ grows. IsWithin (most_with grows n s.origin.held) (length s.kept.text + s.unread)) (sym some)
    (omega (arith, ints, within n s d))

pub grows_freely : (course : Course) (case : Case) → course.grows ≡ None → GrowsNoMore course case
grows_freely course case none n s d =
    subst (λ grows. IsWithin (most_with grows n s.origin.held) (length s.kept.text + s.unread)) (sym none) tt

-- no more is held than may be
pub small_where : (course : Course) (case : Case)
    → ((n : ℕ) (s : Point) → Describes n case s → single s Held ≤ℤ pos (poly.value course.size n))
    → GrowsNoMore course case → IsSmall course case
small_where course case fits grows n s d = record {
  fits = omega (arith, ints, fits n s d);
  grows = grows n s d;
}

-- a copy of a shape
pub shaped : (shape copy : Shape) (s : Point) → copy.operators.items ≡ shape.operators.items
    → copy.iterations ≡ shape.iterations → copy.pushes ≡ shape.pushes → IsShape shape s → IsShape copy s
shaped shape copy s operators iterations pushes h = record {
  operators = operators ∙ h.operators;
  iterations = iterations ∙ h.iterations;
  pushes = ap (λ k. s.origin.pushes + k) pushes ∙ h.pushes;
}

-- what is claimed, and facts behind it
pub all_known : (size : Polynomial) (cut : CutState) (copies facts all : List (List Term))
    → ((n : ℕ) (v : Valuation) → All (Holds n v) cut.claims.items → All (Holds n v) copies)
    → All (IsFact size) facts → all ≡ copies ++ facts → AreKnown size cut all
all_known size cut copies facts all copied are e n s whole room claimed =
    subst (All (Holds n (numbers_of s))) (sym e)
    (all_joined (Holds n (numbers_of s)) copies facts (copied n (numbers_of s) claimed)
    (λ k d l. are k d l n s whole room))
