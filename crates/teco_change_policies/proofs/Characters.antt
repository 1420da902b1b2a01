-- Characters of pieces and of classes, and line ends.
use Rattle.std.proofs.Common.{◌≡◌, ◌⊎◌, inl, inr, ℕ, List, [], ◌∷◌, Bool, true, false, ◌||◌, ◌==◌, refl, sym, subst}
use Rattle.std.proofs.Common.{eqb-true, ◌&&◌, ◌<◌, ◌≤◌, get_or, length}
use Rattle.std.proofs.lemmas.Bool.{false_from_ne_true, leb-true}
use Rattle.std.proofs.lemmas.List.Elements.{All-head, All-tail, All-weaker}
use Rattle.std.specs.Prelude.{All, IsTrue, nat_le}
use Rattle.std.specs.Int.{is_in_range}
use Rattle.teco_base.specs.Bytes.{is_line_end}
use Rattle.teco_base.specs.declared.bytes.TheConstants.{FF, LF, VT}
use Rattle.teco_changes.specs.Changes.{AreOneOf, is_of_class, numeral}
use Rattle.teco_changes.specs.declared.change.Range.{Range}
use Rattle.teco_policy.specs.Subsequences.{is_one_of}

pub one_of_two : (s t : Bool) → (s || t) ≡ true → (s ≡ true) ⊎ (t ≡ true)
one_of_two true t e = inl refl
one_of_two false t e = inr e

-- a line end is one of three
pub end_is : (P : ℕ → Type 0) → P LF → P VT → P FF → (b : ℕ) → is_line_end b ≡ true → P b
end_is P lf vt ff b e =
    elim (one_of_two (b == LF || b == VT) (b == FF) e) [
      | inl x ↦ elim (one_of_two (b == LF) (b == VT) x) [
        | inl y ↦ subst P (sym (eqb-true b LF y)) lf
        | inr y ↦ subst P (sym (eqb-true b VT y)) vt
      ]
      | inr y ↦ subst P (sym (eqb-true b FF y)) ff
    ]

differ : (t : Bool) → t ≡ true → t ≡ false → ⊥
differ t e f = cc

pub no_end_of_class : (ranges : List Range) → is_of_class ranges LF ≡ false → is_of_class ranges VT ≡ false
    → is_of_class ranges FF ≡ false → (b : ℕ) → IsTrue (is_of_class ranges b) → is_line_end b ≡ false
no_end_of_class ranges lf vt ff b h =
    false_from_ne_true (is_line_end b)
    (λ e. differ (is_of_class ranges b) h
    (end_is (λ c. is_of_class ranges c ≡ false) lf vt ff b e))

-- whatever holds of each of some characters holds of one of them
pub of_one : (P : ℕ → Type 0) (characters : List ℕ) → All P characters → (b : ℕ) → IsTrue (is_one_of characters b) → P b
of_one P [] each b h = cc
of_one P (c ∷ characters) each b h =
    elim (one_of_two (c == b) (is_one_of characters b) h) [
      | inl x ↦ subst P (eqb-true c b x) (All-head P c characters each)
      | inr y ↦ of_one P characters (All-tail P c characters each) b y
    ]

pub of_each : (P : ℕ → Type 0) (characters text : List ℕ) → All P characters → AreOneOf characters text → All P text
of_each P characters text each h =
    All-weaker (λ b. IsTrue (is_one_of characters b)) P (of_one P characters each) text h

pub numeral_among : (characters put : List ℕ) → AreOneOf characters numeral → AreOneOf numeral put
    → AreOneOf characters put
numeral_among characters put each h = of_each (λ b. IsTrue (is_one_of characters b)) numeral put each h

both : (s t : Bool) → (s && t) ≡ true → (s ≡ true) × (t ≡ true)
both true t e = (refl, e)
both false t e = absurd cc

-- characters of a class are in one of its ranges
class_each : (P : ℕ → Type 0) (ranges : List Range)
    → All (λ range. (b : ℕ) → range.first ≤ b → b ≤ range.last → P b) ranges
    → (b : ℕ) → IsTrue (is_of_class ranges b) → P b
class_each P [] each b h = absurd cc
class_each P (range ∷ ranges) each b h =
    elim (one_of_two (is_in_range range.first range.last b) (is_of_class ranges b) h) [
      | inl x ↦ let within = both (nat_le range.first b) (nat_le b range.last) x in
          All-head (λ r. (c : ℕ) → r.first ≤ c → c ≤ r.last → P c) range ranges each b
          (leb-true range.first b within.0) (leb-true b range.last within.1)
      | inr y ↦ class_each P ranges (All-tail (λ r. (c : ℕ) → r.first ≤ c → c ≤ r.last → P c) range ranges each) b y
    ]

pub class_among : (characters : List ℕ) (ranges : List Range)
    → ((k : ℕ) (d : Range) → k < length ranges → (b : ℕ) → (get_or ranges k d).first ≤ b → b ≤ (get_or ranges k d).last
    → IsTrue (is_one_of characters b))
    → (b : ℕ) → IsTrue (is_of_class ranges b) → IsTrue (is_one_of characters b)
class_among characters ranges each b h = class_each (λ c. IsTrue (is_one_of characters c)) ranges each b h
