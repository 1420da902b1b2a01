-- The way that a number takes is reached, and what is known on it holds.
use Rattle.teco_law_facts.proofs.Prelude.{List, ◌≡◌, ℕ, zero, suc, ◌+◌, ◌≤◌, arith, refl, subst, ℤ, pos, negsuc, neg_ℤ}
use Rattle.teco_law_facts.proofs.Prelude.{◌+ℤ◌, ◌-ℤ◌, ◌≤ℤ◌, ◌*ℤ◌, int_le, Bool, true, false, ◌&&◌, not, cond, Option}
use Rattle.teco_law_facts.proofs.Prelude.{Some, None, option_map, MatchOption, inl, inr, ints, Kept, Pair, positive}
use Rattle.teco_law_facts.proofs.Prelude.{Run, IsWhole, Holds, IsAt, fore_of, back_of, Position, Answer, Facts}
use Rattle.teco_law_facts.proofs.Prelude.{at_position, IsTold, IsIn, IsWithin, interval_of, Numbers, Positive}
use Rattle.teco_law_facts.proofs.Prelude.{NotPositive, Takes, position_by, Distances, Interval, Value}
use Rattle.teco_law_facts.proofs.Numbers.{AreDistances, interval_of_in}
use Rattle.teco_law_facts.proofs.Near.{distances}
use Rattle.teco_law_facts.specs.Describes.{IsAnswer}
use Rattle.teco_law_facts.specs.Laws.{WaysAreSound}
use Rattle.teco_verifier.specs.facts.Ways.{Zero, NotZero, Negative, NotNegative, All}
use Rattle.teco_verifier.specs.facts.Ways.{may_take, opposite, least_taking, with_back, with_fore, raised_by}
use Rattle.teco_verifier.specs.facts.Ways.{position_on, position_of}

-- there is one, and it is at most x
abbrev pub IsUpTo : Option ℕ → ℕ → Type 0
IsUpTo None x = ⊥
IsUpTo (Some m) x = m ≤ x

some_if : (b : Bool) (m x : ℕ) → b ≡ true → m ≤ x → IsUpTo (cond b (Some m) None) x
some_if true m x e h = h
some_if false m x e h = absurd cc

either_if : (b : Bool) (m k x : ℕ) → (b ≡ true → m ≤ x) → (b ≡ false → k ≤ x) → IsUpTo (cond b (Some m) (Some k)) x
either_if true m k x h i = h refl
either_if false m k x h i = i refl

positive_up_to : (z : ℤ) (x : ℕ) → z ≤ℤ pos x → positive z ≤ x
positive_up_to (pos a) x h = omega (arith, ints)
positive_up_to (negsuc a) x h = omega arith

le_true : (a b : ℤ) → a ≤ℤ b → int_le a b ≡ true
le_true a b h = grind (arith, ints)

least_is : (n : Numbers) (m x : ℕ) (k : ℤ) → m ≤ x → Takes n (pos x +ℤ k) → IsUpTo (least_taking n m k) x
least_is Zero m x k h t = some_if _ _ x (le_true (pos m +ℤ k) (pos 0) (omega (arith, ints)))
    (positive_up_to (neg_ℤ k) x (omega (arith, ints)))
least_is NotZero m x k h t = either_if _ (m + 1) m x (λ e. grind (arith, ints)) (λ e. h)
least_is Negative m x k h t = some_if _ m x (le_true (pos m +ℤ k) (negsuc 0) (omega (arith, ints))) h
least_is NotNegative m x k h t = omega (arith, positive_up_to (neg_ℤ k) x (omega (arith, ints)))
least_is Positive m x k h t = omega (arith, positive_up_to (pos 1 -ℤ k) x (omega (arith, ints)))
least_is NotPositive m x k h t = some_if _ m x (le_true (pos m +ℤ k) (pos 0) (omega (arith, ints))) h
least_is All m x k h t = h

takes_opposite : (n : Numbers) (v : ℤ) → Takes n v → Takes (opposite n) (neg_ℤ v)
takes_opposite Zero v t = omega (arith, ints)
takes_opposite NotZero v t = λ e. t (omega (arith, ints))
takes_opposite Negative v t = omega (arith, ints)
takes_opposite NotNegative v t = omega (arith, ints)
takes_opposite Positive v t = omega (arith, ints)
takes_opposite NotPositive v t = omega (arith, ints)
takes_opposite All v t = tt

both : {x y : Bool} → x ≡ true → y ≡ true → (x && y) ≡ true
both {x} {y} p q = rw (p, q) refl

not_both_of : (x y : Bool) → (x ≡ true → y ≡ true → ⊥) → not (x && y) ≡ true
not_both_of true true h = absurd (h refl refl)
not_both_of true false h = refl
not_both_of false y h = refl

pub within_may : (n : Numbers) (i : Interval) (v : ℤ) → IsWithin i v → Takes n v → may_take n i ≡ true
within_may Zero r v i t = both (le_true r.lo (pos 0) (omega (arith, ints))) (le_true (pos 0) r.hi (omega (arith, ints)))
within_may NotZero r v i t = not_both_of (int_le (pos 0) r.lo) (int_le r.hi (pos 0)) (λ p q. t (omega (arith, ints)))
within_may Negative r v i t = le_true r.lo (negsuc 0) (omega (arith, ints))
within_may NotNegative r v i t = le_true (pos 0) r.hi (omega (arith, ints))
within_may Positive r v i t = le_true (pos 1) r.hi (omega (arith, ints))
within_may NotPositive r v i t = le_true r.lo (pos 0) (omega (arith, ints))
within_may All r v i t = refl

-- a position is reached, and what is known of it holds
abbrev pub IsOn : Run → ℕ → ℕ → ℕ → List Pair → Option Position → Type 0
IsOn run fore back unread pairs position = MatchOption position ⊥ (λ p. IsAt run p fore back unread pairs)

module _ (run : Run) (position : Position) (fore back unread : ℕ) (pairs : List Pair)
    (near : AreDistances position.distances fore back) (h : IsAt run position fore back unread pairs) where
  abbrev with_distances : Distances → Position
  with_distances d = record position { distances = d }

  bounded : (d : Distances) → d.back ≤ back → d.fore ≤ fore → IsAt run (with_distances d) fore back unread pairs
  bounded d b f = record { begin = b; end = f; fallen = h.fallen; ahead = h.ahead; saved = h.saved }

  fore_raised : (o : Option ℕ) → IsUpTo o fore
      → IsOn run fore back unread pairs (option_map with_distances (option_map (with_fore position.distances) o))
  fore_raised None i = i
  fore_raised (Some m) i = bounded _ (omega (arith, h.begin)) (omega arith)

  back_raised : (o : Option ℕ) → IsUpTo o back
      → IsOn run fore back unread pairs (option_map with_distances (option_map (with_back position.distances) o))
  back_raised None i = i
  back_raised (Some m) i = bounded _ (omega arith) (omega (arith, h.end))

  same : IsAt run (with_distances position.distances) fore back unread pairs
  same = bounded position.distances h.begin h.end

  raised_is : (n : Numbers) (a b k v : ℤ) → (pos fore *ℤ a +ℤ pos back *ℤ b +ℤ k) ≡ v → Takes n v
      → IsOn run fore back unread pairs (option_map with_distances (raised_by n a b k position.distances))
  raised_is n (pos (suc zero)) (pos zero) k v e t =
      fore_raised _ (least_is n position.distances.fore fore k h.end (subst (Takes n) (omega (arith, ints)) t))
  raised_is n (negsuc zero) (pos zero) k v e t =
      fore_raised _ (least_is (opposite n) position.distances.fore fore (neg_ℤ k) h.end
      (subst (Takes (opposite n)) (omega (arith, ints)) (takes_opposite n v t)))
  raised_is n (pos zero) (pos (suc zero)) k v e t =
      back_raised _ (least_is n position.distances.back back k h.begin (subst (Takes n) (omega (arith, ints)) t))
  raised_is n (pos zero) (negsuc zero) k v e t =
      back_raised _ (least_is (opposite n) position.distances.back back (neg_ℤ k) h.begin
      (subst (Takes (opposite n)) (omega (arith, ints)) (takes_opposite n v t)))
  raised_is n a b k v e t = same

  raised_on : (x : Bool) (n : Numbers) (s : Value) (v : ℤ) → int_le s.hi s.lo ≡ x → IsIn s fore back v → Takes n v
      → IsOn run fore back unread pairs
      (option_map with_distances (cond x (raised_by n s.ahead s.behind s.lo position.distances)
      (Some position.distances)))
  raised_on true n s v e i t = raised_is n s.ahead s.behind s.lo v (omega (arith, ints)) t
  raised_on false n s v e i t = same

  position_is : (n : Numbers) (s : Value) (v : ℤ) → IsIn s fore back v → Takes n v
      → IsOn run fore back unread pairs (position_on n s position)
  position_is n s v i t =
      rw (within_may n (interval_of position.distances s) v
      (interval_of_in s position.distances fore back v near.least (omega (arith, near.within))
      (omega (arith, near.within)) i) t)
      (raised_on _ n s v refl i t)

  -- the outcome that an answer tells
  outcome_is : (n : Numbers) (answer : Answer) (v : ℤ) → IsAnswer run answer fore back unread pairs v → Takes n v
      → IsOn run fore back unread pairs (position_of n answer position)
  outcome_is Zero answer v i t = i.failed t
  outcome_is NotZero answer v i t = elim i.either [ inl e ↦ i.found e | inr e ↦ absurd (t e) ]
  outcome_is Negative answer v i t = elim i.either [ inl e ↦ i.found e | inr e ↦ absurd (omega (arith, ints)) ]
  outcome_is NotNegative answer v i t = elim i.either [ inl e ↦ absurd (omega (arith, ints)) | inr e ↦ i.failed e ]
  outcome_is Positive answer v i t =
      elim i.either [ inl e ↦ absurd (omega (arith, ints)) | inr e ↦ absurd (omega (arith, ints)) ]
  outcome_is NotPositive answer v i t = h
  outcome_is All answer v i t = h

pub at_another : (run : Run) (facts : Facts) (unread : ℕ) (kept : Kept) → Holds run facts unread kept
    → (o : Option Position) → IsOn run (fore_of kept) (back_of kept) unread kept.registers.pairs o
    → MatchOption (option_map (λ p. at_position p facts) o) ⊥ (λ next. Holds run next unread kept)
at_another run facts unread kept h None i = i
at_another run facts unread kept h (Some p) i =
    record { position = i; held = h.held; registers = h.registers; pushed = h.pushed }

pub told_on : (run : Run) (facts : Facts) (unread : ℕ) (kept : Kept) (numbers : Numbers) (answer : Option Answer)
    (s : Value) (v : ℤ) → IsWhole kept → Holds run facts unread kept
    → IsTold run answer s (fore_of kept) (back_of kept) unread kept.registers.pairs v → Takes numbers v
    → IsOn run (fore_of kept) (back_of kept) unread kept.registers.pairs (position_by numbers answer s facts.position)
told_on run facts unread kept numbers None s v whole h i t =
    position_is run facts.position (fore_of kept) (back_of kept) unread kept.registers.pairs
    (distances run facts unread kept whole h) h.position numbers s v i t
told_on run facts unread kept numbers (Some answer) s v whole h i t =
    outcome_is run facts.position (fore_of kept) (back_of kept) unread kept.registers.pairs
    (distances run facts unread kept whole h) h.position numbers answer v i t

pub ways_are_sound : WaysAreSound
ways_are_sound run facts unread kept numbers answer s v whole h i t =
    at_another run facts unread kept h _ (told_on run facts unread kept numbers answer s v whole h i t)
