-- A subsequence may be matched from the left: its first character takes the first place that there is.
use Rattle.std.proofs.Common.{◌≡◌, inl, inr, ℕ, zero, suc, ◌+◌, ◌-◌, ◌<◌, ◌≤◌, ◌↔◌, List, [], ◌∷◌, ◌++◌, length}
use Rattle.std.proofs.Common.{take, drop, true, false, cond, not, refl, sym, subst, ap, ◌∙◌, arith, get_or}
use Rattle.std.proofs.lemmas.Bool.{eq-eqb, eqb-true}
use Rattle.std.proofs.lemmas.List.{append-nil, take-append-drop, take_all, take_more, take_rest}
use Rattle.std.proofs.lemmas.List.Elements.{filter-append}
use Rattle.std.specs.Borrow.{Bor}
use Rattle.std.specs.Option.{MatchOption}
use Rattle.std.specs.Prelude.{Option, None, Some}
use Rattle.memchr.specs.Find.{Nowhere, NoneBefore, Passes, is_byte, IsFirstByte}
use Rattle.teco_policy.specs.Subsequences.{IsFirstOutside, IsSubsequence, IsWithin, is_one_of, without}

longer : (part : List ℕ) (c : ℕ) (text : List ℕ) → IsSubsequence part text → IsSubsequence part (c ∷ text)
longer [] c text h = tt
longer (b ∷ part) c text h = inr h

shorter : (b : ℕ) (part text : List ℕ) → IsSubsequence (b ∷ part) text → IsSubsequence part text
shorter b part [] h = absurd h
shorter b part (c ∷ text) h =
    elim h [ inl x ↦ longer part c text x.1 | inr y ↦ longer part c text (shorter b part text y) ]

-- a character at the front stands there first
pub at_front : (b : ℕ) (text : List ℕ) → 0 < length text → get_or text 0 0 ≡ b → IsFirstByte (is_byte b) text (Some 0)
at_front b text some same = (
  record { low = omega arith; high = some; before = λ k low below. absurd (omega arith) },
  eq-eqb (get_or text 0 0) b same,
)

-- a character that stands nowhere has no place
no_place : (b : ℕ) (part text : List ℕ) → Nowhere (Passes (is_byte b) text) 0 (length text)
    → IsSubsequence (b ∷ part) text → ⊥
no_place b part [] none h = h
no_place b part (c ∷ text) none h =
    elim h [
      | inl x ↦ none 0 (omega arith) (omega arith) (eq-eqb c b (sym x.0))
      | inr y ↦ no_place b part text (λ k low high. none (suc k) (omega arith) (omega arith)) y
    ]

-- the first place of a character serves as well as any other
goes : (b : ℕ) (part : List ℕ) (k : ℕ) (text : List ℕ) → NoneBefore (Passes (is_byte b) text) 0 (length text) k
    → IsSubsequence (b ∷ part) text → IsSubsequence part (drop (suc k) text)
goes b part k [] first h = absurd h
goes b part zero (c ∷ text) first h = elim h [ inl x ↦ x.1 | inr y ↦ shorter b part text y ]
goes b part (suc k) (c ∷ text) first h =
    elim h [
      | inl x ↦ absurd (first.before 0 (omega arith) (omega arith) (eq-eqb c b (sym x.0)))
      | inr y ↦ goes b part k text (record {
        low = omega arith;
        high = let high = first.high in omega arith;
        before = λ j low high. first.before (suc j) (omega arith) (omega arith);
      }) y
    ]

comes : (b : ℕ) (part : List ℕ) (k : ℕ) (text : List ℕ) → k < length text → Passes (is_byte b) text k
    → IsSubsequence part (drop (suc k) text) → IsSubsequence (b ∷ part) text
comes b part k [] within here h = absurd (omega arith)
comes b part zero (c ∷ text) within here h = inl (sym (eqb-true c b here), h)
comes b part (suc k) (c ∷ text) within here h = inr (comes b part k text (omega arith) here h)

-- what is left behind the first place of a byte
abbrev pub behind : ℕ → List ℕ → List ℕ
behind k text = take (length text - (k + 1)) (drop (k + 1) text)

module _ (b : ℕ) (besides part : List ℕ) where
  outside : is_one_of besides b ≡ false → without besides (b ∷ part) ≡ b ∷ without besides part
  outside e = ap (λ t. cond (not t) (b ∷ without besides part) (without besides part)) e

  inside : is_one_of besides b ≡ true → without besides (b ∷ part) ≡ without besides part
  inside e = ap (λ t. cond (not t) (b ∷ without besides part) (without besides part)) e

  pub needs_none : (text : List ℕ) → is_one_of besides b ≡ true
      → IsWithin besides (b ∷ part) text ↔ IsWithin besides part text
  needs_none text e = (
    λ h. subst (λ l. IsSubsequence l text) (inside e) h,
    λ h. subst (λ l. IsSubsequence l text) (sym (inside e)) h,
  )

  pub has_none : (text : List ℕ) → is_one_of besides b ≡ false → IsFirstByte (is_byte b) text None
      → IsWithin besides (b ∷ part) text → ⊥
  has_none text e none h =
      no_place b (without besides part) text none (subst (λ l. IsSubsequence l text) (outside e) h)

  pub has_place : (text : List ℕ) (k : ℕ) → is_one_of besides b ≡ false → IsFirstByte (is_byte b) text (Some k)
      → IsWithin besides (b ∷ part) text ↔ IsWithin besides part (behind k text)
  has_place text k e found =
      let one : k + 1 ≡ suc k = omega arith in
      let rest : behind k text ≡ drop (suc k) text = take_rest text (k + 1) ∙ ap (λ n. drop n text) one in (
        λ h. subst (λ l. IsSubsequence (without besides part) l) (sym rest)
            (goes b (without besides part) k text found.0 (subst (λ l. IsSubsequence l text) (outside e) h)),
        λ h. subst (λ l. IsSubsequence l text) (sym (outside e))
            (comes b (without besides part) k text found.0.high found.1
            (subst (λ l. IsSubsequence (without besides part) l) rest h)),
      )

-- nothing is left: no place was found
pub none_left : (r : Option (Bor (List ℕ))) (b : ℕ) (besides part text : List ℕ) → r ≡ None
    → is_one_of besides b ≡ false → IsFirstByte (is_byte b) text None
    → MatchOption r (IsWithin besides (b ∷ part) text → ⊥)
    (λ rest. IsWithin besides (b ∷ part) text ↔ IsWithin besides part rest.now)
none_left r b besides part text none e found =
    subst (λ o. MatchOption o (IsWithin besides (b ∷ part) text → ⊥)
    (λ rest. IsWithin besides (b ∷ part) text ↔ IsWithin besides part rest.now))
    (sym none) (has_none b besides part text e found)

-- without no character, a text is itself
pub without_none : (text : List ℕ) → without [] text ≡ text
without_none [] = refl
without_none (b ∷ text) = ap (λ l. b ∷ l) (without_none text)

-- the front of what is within is within
front_is_within : (front back text : List ℕ) → IsSubsequence (front ++ back) text → IsSubsequence front text
front_is_within [] back text h = tt
front_is_within (b ∷ front) back [] h = h
front_is_within (b ∷ front) back (c ∷ text) h =
    elim h [
      | inl x ↦ inl (x.0, front_is_within front back text x.1)
      | inr y ↦ inr (front_is_within (b ∷ front) back text y)
    ]

module _ (besides part whole : List ℕ) where
  within_front : (n : ℕ) → IsWithin besides part whole → IsWithin besides (take n part) whole
  within_front n h =
      let split : without besides part ≡ without besides (take n part) ++ without besides (drop n part) =
      ap (λ l. without besides l) (sym (take-append-drop n part))
      ∙ filter-append (λ b. not (is_one_of besides b)) (take n part) (drop n part) in
      front_is_within (without besides (take n part)) (without besides (drop n part)) whole
      (subst (λ l. IsSubsequence l whole) split h)

  -- where one character is outside, the whole is not within
  pub outside_is_not_within : (at : ℕ) → IsFirstOutside besides part whole at → IsWithin besides part whole → ⊥
  outside_is_not_within at first h = first.breaks (within_front (at + 1) h)

  pub first_is_outside : (rest : List ℕ) (at : ℕ) → at < length part
      → ((later : List ℕ) → IsWithin besides (take at part ++ later) whole ↔ IsWithin besides later rest)
      → (IsWithin besides (get_or part at 0 ∷ []) rest → ⊥) → IsFirstOutside besides part whole at
  first_is_outside rest at within keeps none = record {
    front = subst (λ l. IsWithin besides l whole) (append-nil (take at part)) ((keeps []).1 tt);
    breaks = λ h.
        none ((keeps (get_or part at 0 ∷ [])).0
        (subst (λ l. IsWithin besides l whole) (take_more part at 0 within) h));
  }

  pub all_is_within : (rest : List ℕ) (at : ℕ) → length part ≤ at
      → ((later : List ℕ) → IsWithin besides (take at part ++ later) whole ↔ IsWithin besides later rest)
      → IsWithin besides part whole
  all_is_within rest at all keeps =
      subst (λ l. IsWithin besides l whole) (append-nil (take at part) ∙ take_all at part all) ((keeps []).1 tt)
