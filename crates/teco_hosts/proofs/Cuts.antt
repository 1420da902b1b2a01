-- A list of bytes is what stands before its first form feed, that form feed if there is one, and what stands behind it.
use Rattle.teco_hosts.proofs.Prelude.{◌≡◌, ℕ, suc, ◌+◌, ◌-◌, ◌<◌, ◌≤◌, List, [], ◌∷◌, ◌++◌, length, take, drop, Bool}
use Rattle.teco_hosts.proofs.Prelude.{true, false, ◌==◌, refl, ap, ◌∙◌, arith, slice_range, drop-drop, eqb-true}
use Rattle.teco_hosts.proofs.Prelude.{prefix_len, FF, is_inner, before_form_feed, has_form_feed, behind_form_feed}
use Rattle.std.proofs.lemmas.List.{take-take, drop-take}

pub record Cut (xs : List ℕ) : Type 0 where
  pub taken : take (prefix_len is_inner xs) xs ≡ before_form_feed xs
  pub len : length (before_form_feed xs) ≡ prefix_len is_inner xs
  pub found : prefix_len is_inner xs < length xs → has_form_feed xs ≡ true
  pub none : length xs ≤ prefix_len is_inner xs → has_form_feed xs ≡ false
  pub left : drop (suc (prefix_len is_inner xs)) xs ≡ behind_form_feed xs

one : (n : ℕ) → 1 + n ≡ suc n
one n = omega arith

cut-cons : (b : ℕ) (xs : List ℕ) (t : Bool) → (b == FF) ≡ t → Cut xs → Cut (b ∷ xs)
cut-cons b xs true e c = record {
  taken = rw e refl;
  len = rw e refl;
  found = λ h. rw e refl;
  none = λ h. let g = rw e at h in absurd (omega arith);
  left = rw e refl;
}
cut-cons b xs false e c = record {
  taken = rw (e, one (prefix_len is_inner xs)) (ap (λ l. b ∷ l) c.taken);
  len = rw (e, one (prefix_len is_inner xs)) (ap suc c.len);
  found = λ h. let g = rw e at h in rw e (c.found (omega arith));
  none = λ h. let g = rw e at h in rw e (c.none (omega arith));
  left = rw (e, one (prefix_len is_inner xs)) c.left;
}

pub cut : (xs : List ℕ) → Cut xs
cut [] = record { taken = refl; len = refl; found = λ h. absurd (omega arith); none = λ h. refl; left = refl }
cut (b ∷ xs) = cut-cons b xs (b == FF) refl (cut xs)

-- behind bytes without a form feed
pub record Onward (p l : List ℕ) : Type 0 where
  pub paged : before_form_feed (p ++ l) ≡ p ++ before_form_feed l
  pub ff : has_form_feed (p ++ l) ≡ has_form_feed l
  pub left : behind_form_feed (p ++ l) ≡ behind_form_feed l

onward-cons : (b : ℕ) (p l : List ℕ) (t : Bool) → (b == FF) ≡ t → has_form_feed (b ∷ p) ≡ false
    → (has_form_feed p ≡ false → Onward p l) → Onward (b ∷ p) l
onward-cons b p l true e h r = let g : true ≡ false = rw e at h in cc
onward-cons b p l false e h r = let o = r (rw e at h) in
    record { paged = rw e (ap (λ x. b ∷ x) o.paged); ff = rw e o.ff; left = rw e o.left }

pub onward : (p l : List ℕ) → has_form_feed p ≡ false → Onward p l
onward [] l h = record { paged = refl; ff = refl; left = refl }
onward (b ∷ p) l h = onward-cons b p l (b == FF) refl h (λ g. onward p l g)

-- what stands before the first form feed has none
plain-cons : (b : ℕ) (xs : List ℕ) (t : Bool) → (b == FF) ≡ t → has_form_feed (before_form_feed xs) ≡ false
    → has_form_feed (before_form_feed (b ∷ xs)) ≡ false
plain-cons b xs true e h = rw e refl
plain-cons b xs false e h = rw e (rw e h)

pub plain : (xs : List ℕ) → has_form_feed (before_form_feed xs) ≡ false
plain [] = refl
plain (b ∷ xs) = plain-cons b xs (b == FF) refl (plain xs)

-- a list with a form feed, and one without
whole-ff-cons : (b : ℕ) (xs : List ℕ) (t : Bool) → (b == FF) ≡ t → has_form_feed (b ∷ xs) ≡ true
    → (has_form_feed xs ≡ true → xs ≡ before_form_feed xs ++ FF ∷ behind_form_feed xs)
    → b ∷ xs ≡ before_form_feed (b ∷ xs) ++ FF ∷ behind_form_feed (b ∷ xs)
whole-ff-cons b xs true e h r = rw e (ap (λ x. x ∷ xs) (eqb-true b FF e))
whole-ff-cons b xs false e h r = rw e (ap (λ x. b ∷ x) (r (rw e at h)))

pub whole-ff : (xs : List ℕ) → has_form_feed xs ≡ true → xs ≡ before_form_feed xs ++ FF ∷ behind_form_feed xs
whole-ff [] h = cc
whole-ff (b ∷ xs) h = whole-ff-cons b xs (b == FF) refl h (λ g. whole-ff xs g)

whole-none-cons : (b : ℕ) (xs : List ℕ) (t : Bool) → (b == FF) ≡ t → has_form_feed (b ∷ xs) ≡ false
    → (has_form_feed xs ≡ false → (before_form_feed xs ≡ xs) × (behind_form_feed xs ≡ []))
    → (before_form_feed (b ∷ xs) ≡ b ∷ xs) × (behind_form_feed (b ∷ xs) ≡ [])
whole-none-cons b xs true e h r = let g : true ≡ false = rw e at h in cc
whole-none-cons b xs false e h r = let o = r (rw e at h) in (rw e (ap (λ x. b ∷ x) o.0), rw e o.1)

pub whole-none : (xs : List ℕ) → has_form_feed xs ≡ false → (before_form_feed xs ≡ xs) × (behind_form_feed xs ≡ [])
whole-none [] h = (refl, refl)
whole-none (b ∷ xs) h = whole-none-cons b xs (b == FF) refl h (λ g. whole-none xs g)

-- parts of a part
pub drop-part : (s : List ℕ) (i j n : ℕ) → n ≤ j - i → drop n (slice_range s i j) ≡ slice_range s (i + n) j
drop-part s i j n h =
    let whole : j - i ≡ n + (j - (i + n)) = omega arith in
    ap (λ k. drop n (take k (drop i s))) whole ∙ drop-take n (j - (i + n)) (drop i s)
    ∙ ap (take (j - (i + n))) (drop-drop n i s)

pub take-part : (s : List ℕ) (i j n : ℕ) → n ≤ j - i → take n (slice_range s i j) ≡ slice_range s i (i + n)
take-part s i j n h =
    let back : n ≡ i + n - i = omega arith in
    take-take n (j - i) (drop i s) h ∙ ap (λ k. take k (drop i s)) back
