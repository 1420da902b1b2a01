-- The codes of characters in a text that is changed.
use Rattle.teco_motion_outcomes.proofs.Prelude.{◌≡◌, ℕ, zero, suc, ◌+◌, ◌≤◌, ◌<◌, ◌⊎◌, inl, inr, ◌∙◌, arith, refl, sym}
use Rattle.teco_motion_outcomes.proofs.Prelude.{ap, subst, pos, List, [], ◌∷◌, ◌++◌, length, take, drop, false}
use Rattle.teco_motion_outcomes.proofs.Prelude.{length-append, length-take, append_assoc, line_place}
use Rattle.teco_motion_outcomes.proofs.Prelude.{text_after_deletion, text_after_insertion, end_code, code_here}
use Rattle.teco_motion_outcomes.proofs.Prelude.{code_before, before_next, IsEnd, above_or, clash, ends, line_end}
use Rattle.teco_motion_outcomes.proofs.Prelude.{one_end}

-- in a text that begins with another
here_behind : (front rest : List ℕ) (i k : ℕ) → k ≡ length front + i → code_here (front ++ rest) k ≡ code_here rest i
here_behind [] rest i k e = let f : k ≡ i = omega (arith, e) in ap (code_here rest) f
here_behind (c ∷ front) rest i zero e = absurd (omega (arith, e))
here_behind (c ∷ front) rest i (suc k) e = here_behind front rest i k (omega (arith, e))

-- in the rest of a text
pub here_dropped : (text : List ℕ) (b i k : ℕ) → k ≡ b + i → code_here (drop b text) i ≡ code_here text k
here_dropped text zero i k e = let f : i ≡ k = omega (arith, e) in ap (code_here text) f
here_dropped [] (suc b) i k e = refl
here_dropped (c ∷ text) (suc b) i zero e = absurd (omega (arith, e))
here_dropped (c ∷ text) (suc b) i (suc k) e = here_dropped text b i k (omega (arith, e))

-- and in its front
here_taken : (text rest : List ℕ) (a k : ℕ) → k < a → k < length text
    → code_here (take a text ++ rest) k ≡ code_here text k
here_taken [] rest a k h l = absurd (omega (arith, l))
here_taken (c ∷ text) rest zero k h l = absurd (omega (arith, h))
here_taken (c ∷ text) rest (suc a) zero h l = refl
here_taken (c ∷ text) rest (suc a) (suc k) h l = here_taken text rest a k (omega (arith, h)) (omega (arith, l))

before_taken : (text rest : List ℕ) (a : ℕ) → a ≤ length text
    → code_before (take a text ++ rest) a ≡ code_before text a
before_taken text rest zero h = refl
before_taken text rest (suc a) h = here_taken text rest (suc a) a (omega arith) (omega (arith, h))

-- ---- without a part
pub left_here : (text : List ℕ) (a b : ℕ) → a ≤ length text
    → code_here (text_after_deletion text a b) a ≡ code_here text b
left_here text a b h =
    here_behind (take a text) (drop b text) 0 a (omega (arith, h, length-take a text))
    ∙ here_dropped text b 0 b (omega arith)

pub left_before : (text : List ℕ) (a b : ℕ) → a ≤ length text
    → code_before (text_after_deletion text a b) a ≡ code_before text a
left_before text a b h = before_taken text (drop b text) a h

-- ---- with a new part
joined : (text new : List ℕ) (p : ℕ) → take p text ++ (new ++ drop p text) ≡ text_after_insertion text p new
joined text new p = sym (append_assoc (take p text) new (drop p text))

pub grown_here : (text new : List ℕ) (p : ℕ) → p ≤ length text
    → code_here (text_after_insertion text p new) (p + length new) ≡ code_here text p
grown_here text new p h =
    subst (λ t. code_here t (p + length new) ≡ code_here text p) (joined text new p)
    (here_behind (take p text) (new ++ drop p text) (length new) (p + length new)
    (omega (arith, h, length-take p text))
    ∙ here_behind new (drop p text) 0 (length new) (omega arith)
    ∙ here_dropped text p 0 p (omega arith))

-- the last character of a part
last_is : (front new rest : List ℕ) (before k : ℕ) → k ≡ length front + length new
    → (new ≡ [] → code_before (front ++ (new ++ rest)) k ≡ before)
    → code_before (front ++ (new ++ rest)) k ≡ end_code new before
last_is front [] rest before k e h = h refl
last_is front (b ∷ []) rest before k e h =
    before_next (front ++ (b ∷ rest)) (length front) k (omega (arith, e))
    ∙ here_behind front (b ∷ rest) 0 (length front) (omega arith)
last_is front (b ∷ c ∷ new) rest before k e h =
    subst (λ t. code_before t k ≡ end_code (c ∷ new) before) (append_assoc front (b ∷ []) ((c ∷ new) ++ rest))
    (last_is (front ++ (b ∷ [])) (c ∷ new) rest before k
    (omega (arith, e, length-append front (b ∷ []))) (λ f. absurd (cc)))

pub grown_before : (text new : List ℕ) (p : ℕ) → p ≤ length text
    → code_before (text_after_insertion text p new) (p + length new) ≡ end_code new (code_before text p)
grown_before text new p h =
    subst (λ t. code_before t (p + length new) ≡ end_code new (code_before text p)) (joined text new p)
    (last_is (take p text) new (drop p text) (code_before text p) (p + length new)
    (omega (arith, h, length-take p text)) unchanged) where
      unchanged : new ≡ [] → code_before (take p text ++ (new ++ drop p text)) (p + length new) ≡ code_before text p
      unchanged e =
          subst (λ k. code_before (take p text ++ (new ++ drop p text)) k ≡ code_before text p)
          (omega (arith, ap length e)) (before_taken text (new ++ drop p text) p h)

-- ---- where a character ends no line, the line ends behind it where it does at it
pub ends_as_before : (text : List ℕ) (p : ℕ) → p < length text → ends text p ≡ false
    → line_place text (p + 1) (pos 1) ≡ line_place text p (pos 1)
ends_as_before text p h e =
    one_end text (p + 1) (line_place text (p + 1) (pos 1)) (line_place text p (pos 1))
    (line_end text (p + 1) (omega arith)) (record {
      after = behind;
      within = f.within;
      more = λ l. beyond l (above_or (line_place text p (pos 1)) (p + 1));
      none = λ i a b. f.none i (omega arith) b;
      one = f.one;
    }) where
      f : IsEnd text p (line_place text p (pos 1))
      f = line_end text p (omega arith)

      behind : p + 1 ≤ line_place text p (pos 1)
      behind = elim (above_or (length text) (line_place text p (pos 1))) [
        | inl w ↦ omega (arith, h)
        | inr w ↦ omega (arith, f.more w)
      ]

      beyond : line_place text p (pos 1) < length text
          → ((line_place text p (pos 1) ≤ p + 1) ⊎ (p + 1 < line_place text p (pos 1)))
          → p + 1 < line_place text p (pos 1)
      beyond l (inl w) = absurd (clash _ (f.one p (omega (arith, w, behind)) l) e)
      beyond l (inr w) = w
