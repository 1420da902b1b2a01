-- What is claimed, as forms and cut points.
use Rattle.teco_paths.proofs.Prelude.{◌≡◌, ℕ, zero, suc, ◌+◌, ◌-◌, ◌<◌, refl, sym, ap, ◌∙◌, subst, arith, List}
use Rattle.teco_paths.proofs.Prelude.{[], ◌∷◌, ◌++◌, length, true, false, Some, ℤ, pos, ◌+ℤ◌}
use Rattle.teco_paths.proofs.Prelude.{ints, All, Any, unwrap_or, Measure, place, Point, measures_of}
use Rattle.teco_paths.proofs.Prelude.{cases_order, ◌⊎◌, inl, inr, take}
use Rattle.teco_paths.proofs.Lists.{all_joined, any_back, any_front}
use Rattle.teco_paths.proofs.Onward.{same_there}
use Rattle.teco_paths.proofs.Prelude.{CutState, Node, numbers_of, from_end, slice_get, if◌then◌else◌}
use Rattle.std.specs.Prelude.{◌==◌, slice_index_or}
use Rattle.std.proofs.lemmas.Bool.Decides.{nat_tests}
use Rattle.teco_claims.specs.declared.term.ClaimMeasure.{ClaimMeasure}
use Rattle.teco_claims.specs.declared.term.ClaimTerm.{ClaimTerm}
use Rattle.teco_claims.specs.Values.{AtCut}
use Rattle.teco_paths.specs.Meaning.{IsMadeOf, IsNumber, IsTimes, SayClaims, SpeaksOf, Sums}
use Rattle.teco_paths.proofs.Symbols.{measure_again}

-- ---- iterations
-- what stands at a place from the front stands at another from the end
not_last : {X : Type 0} (y : X) (ys : List X) (i : ℕ) → i < length ys → from_end (y ∷ ys) i ≡ from_end ys i
not_last y ys i less =
    let apart : (length ys == i) ≡ false = grind (arith, nat_tests) in
    ap (λ b. if b then Some y else from_end ys i) apart

pub got_from_end : {X : Type 0} (xs : List X) (at : ℕ) (x : X) → slice_get xs at ≡ Some x
    → from_end xs (length xs - 1 - at) ≡ Some x
got_from_end [] at x h = absurd (cc)
got_from_end (y ∷ ys) zero x h =
    let e : length (y ∷ ys) - 1 - 0 ≡ length ys = omega arith in
    let same : (length ys == length ys) ≡ true = grind (arith, nat_tests) in
    ap (from_end (y ∷ ys)) e ∙ ap (λ b. if b then Some y else from_end ys (length ys)) same ∙ h
got_from_end (y ∷ ys) (suc k) x h =
    let less : k < length ys = within ys k x h in
    let e : length (y ∷ ys) - 1 - suc k ≡ length ys - 1 - k = omega (arith, less) in
    ap (from_end (y ∷ ys)) e ∙ not_last y ys (length ys - 1 - k) (omega (arith, less)) ∙ got_from_end ys k x h
  where
    within : {X : Type 0} (xs : List X) (k : ℕ) (x : X) → slice_get xs k ≡ Some x → k < length xs
    within [] k x h = absurd (cc)
    within (y ∷ ys) zero x h = omega arith
    within (y ∷ ys) (suc k) x h = let l = within ys k x h in omega (arith, l)

-- ---- terms
pub number_of_measure : (node : Node) (s : Point) (measure : ClaimMeasure) (m : Measure) → SpeaksOf node measure m
    → IsNumber node s (Some measure) (numbers_of s (place m))
number_of_measure node s measure m speaks =
    (m, speaks, ap (λ o. unwrap_or (measures_of s o) (pos 0)) (measure_again m))

-- ---- sums
pub sums_on : (node : Node) (n : ℕ) (s : Point) (times : ℕ) (terms : List ClaimTerm) (term : ClaimTerm) (sum more : ℤ)
    → Sums node n s times terms sum → IsTimes node n s times term more
    → Sums node n s times (terms ++ term ∷ []) (sum +ℤ more)
sums_on node n s times [] term sum more is last = (more, pos 0, last, refl, omega (arith, ints, is))
sums_on node n s times (first ∷ terms) term sum more is last = (
  is.0,
  is.1 +ℤ more,
  is.2,
  sums_on node n s times terms term is.1 more is.3 last,
  omega (arith, ints, is.4),
)

-- one more of a list
pub take_more : {X : Type 0} (xs : List X) (k : ℕ) (x : X) → k < length xs → slice_index_or xs k x ≡ x
    → take (k + 1) xs ≡ take k xs ++ x ∷ []
take_more [] k x l e = absurd (omega (arith, l))
take_more (y ∷ ys) zero x l e = ap (λ x. x ∷ []) e
take_more (y ∷ ys) (suc k) x l e =
    let one : suc k + 1 ≡ suc (k + 1) = omega arith in
    ap (λ j. take j (y ∷ ys)) one ∙ ap (λ rest. y ∷ rest) (take_more ys k x (omega (arith, l)) e)

-- ---- cut points
-- those that were made so far are of claims, and there is one at each element of which something is claimed
pub record AreMade (nodes : List Node) (cuts : List AtCut) (count : ℕ) (made : List CutState) : Type 0 where
  pub of :
      All (λ (cut : CutState). Any (λ (at : AtCut). IsMadeOf nodes at cut) cuts) made
  pub some :
      (k : ℕ) (d : AtCut) → k < count
      → Any (λ (cut : CutState). cut.number ≡ (slice_index_or cuts k d).point) made

first_of : (nodes : List Node) (at : AtCut) (cuts : List AtCut) (k : ℕ) (d : AtCut) (more : List CutState)
    → slice_index_or cuts k d ≡ at → All (IsMadeOf nodes at) more → 0 < length more
    → Any (λ (cut : CutState). cut.number ≡ (slice_index_or cuts k d).point) more
first_of nodes at cuts k d [] e all some = absurd (omega (arith, some))
first_of nodes at cuts k d (cut ∷ more) e all some =
    (0, cut, omega arith, refl, (all 0 cut (omega arith)).there ∙ ap (λ (x : AtCut). x.point) (sym e))

pub made_more : (nodes : List Node) (cuts : List AtCut) (count : ℕ) (made more : List CutState) (at : AtCut)
    → count < length cuts → slice_index_or cuts count at ≡ at → AreMade nodes cuts count made
    → All (IsMadeOf nodes at) more → 0 < length more → AreMade nodes cuts (count + 1) (made ++ more)
made_more nodes cuts count made more at less is are all some = record {
  of =
      all_joined (λ (cut : CutState). Any (λ (at : AtCut). IsMadeOf nodes at cut) cuts) made more are.of
      (λ k d l. (count, at, less, is, all k d l));
  some = λ k d l. by k d l (cases_order k count);
}
  where
    by : (k : ℕ) (d : AtCut) → k < count + 1 → (k ≡ count) ⊎ ((k < count) ⊎ (count < k))
        → Any (λ (cut : CutState). cut.number ≡ (slice_index_or cuts k d).point) (made ++ more)
    by k d l (inl e) =
        let here : slice_index_or cuts k d ≡ at =
        subst (λ k. slice_index_or cuts k d ≡ at) (sym e) (same_there cuts count d at less ∙ is) in
        any_back (λ (cut : CutState). cut.number ≡ (slice_index_or cuts k d).point) made more
        (first_of nodes at cuts k d more here all some)
    by k d l (inr (inl before)) =
        any_front (λ (cut : CutState). cut.number ≡ (slice_index_or cuts k d).point) made more (are.some k d before)
    by k d l (inr (inr behind)) = absurd (omega (arith, l, behind))

pub made_say : (nodes : List Node) (cuts : List AtCut) (made : List CutState) → AreMade nodes cuts (length cuts) made
    → SayClaims nodes cuts made
made_say nodes cuts made are n number s said there =
    let k = there.0 in
    let at = there.1 in
    let some = are.some k at there.2 in
    let here : (slice_index_or cuts k at).point ≡ number = ap (λ (x : AtCut). x.point) there.3 ∙ there.4 in
    let one = said (some.0, some.1, some.2, some.3, some.4 ∙ here) in
    let of = subst (λ (cut : CutState). Any (λ (at : AtCut). IsMadeOf nodes at cut) cuts) one.3
    (are.of one.0 one.1 one.2) in
    let is = of.4 in
    (of.0, of.1, of.2, of.3, (sym is.there ∙ one.4.0, is.means n s one.4.1.claims))
