-- What matches are: how long, and where line ends are in them.
use Rattle.teco_search_outcomes.proofs.Prelude.{◌≡◌, ℕ, ◌+◌, ◌-◌, ◌<◌, ◌≤◌, ◌==◌, inl, inr, List, [], ◌∷◌, ◌++◌, length}
use Rattle.teco_search_outcomes.proofs.Prelude.{Bool, true, false, not, if◌then◌else◌, refl, sym, ap, subst, ◌∙◌, arith}
use Rattle.teco_search_outcomes.proofs.Prelude.{nat_tests, All-head, All-tail, slice_get_within, All, flat_map}
use Rattle.teco_search_outcomes.proofs.Prelude.{is_line_end, is_in, is_space_or_tab, class_of, items_of, Registers}
use Rattle.teco_search_outcomes.proofs.Prelude.{Item, Part, Span, HasAt, InTurn, IsMatch, IsSingle, above_or, clash}
use Rattle.teco_search_outcomes.proofs.Prelude.{ends}
use Rattle.std.proofs.Common.{◌⊎◌}
use Rattle.std.proofs.Common.{◌&&◌}
use Rattle.std.proofs.lemmas.Option.{get_or_from_slice_get}
use Rattle.teco_base.specs.Bytes.{is_letter, to_upper}
use Rattle.teco_model.specs.Pattern.{literal, literals}
use Rattle.teco_model.specs.Registers.{pair_of}
use Rattle.teco_model.specs.declared.pattern.Class.{Class}
use Rattle.teco_model.specs.declared.pattern.Class.TheVariants as class
use Rattle.teco_model.specs.declared.pattern.Item.TheVariants as item
use Rattle.teco_model.specs.declared.pattern.Part.TheVariants as part
use Rattle.teco_model.specs.laws.Matching.{Matches}
use Rattle.teco_search_outcomes.specs.Patterns.{EndsLine, HasEnds, HasNoEnd, IsNoEnd, StaysInLine}

-- ---- how long they are
has_within : (passes : ℕ → Bool) (text : List ℕ) (at : ℕ) → HasAt passes text at → at < length text
has_within passes text at h = slice_get_within text at h.0 h.1

item_lies : (i : Item) (text : List ℕ) (at end : ℕ) → Matches i text at end → (at < end) × (end ≤ length text)
item_lies (item.Is c) text at end m =
    let within = has_within (is_in c) text at m.has in let e = m.ends in (omega arith, omega arith)
item_lies (item.IsNot c) text at end m =
    let within = has_within (λ b. not (is_in c b)) text at m.has in let e = m.ends in (omega arith, omega arith)
item_lies item.Blanks text at end m =
    let some : at < end = m.some in
    let within = has_within is_space_or_tab text (end - 1) (m.each (end - 1) (omega arith) (omega arith)) in
    (some, omega arith)

turn_lies : (items : List Item) (text : List ℕ) (at end : ℕ) → at ≤ length text → InTurn items text at end
    → (at + length items ≤ end) × (end ≤ length text)
turn_lies [] text at end h m = (omega arith, omega arith)
turn_lies (i ∷ items) text at end h m =
    let first = item_lies i text at m.0 m.1 in
    let later = turn_lies items text m.0 end first.1 m.2 in
    (omega arith, omega arith)

-- where a match starts and ends
pub record Lies (items : List Item) (text : List ℕ) (span : Span) : Type 0 where
  pub some : span.start < span.end
  pub long : span.start + length items ≤ span.end
  pub within : span.end ≤ length text

pub match_lies : (items : List Item) (text : List ℕ) (span : Span) → IsMatch items text span → Lies items text span
match_lies [] text span m = absurd m
match_lies (i ∷ items) text span m =
    let first = item_lies i text span.start m.0 m.1 in
    let turn = turn_lies (i ∷ items) text span.start span.end (omega arith) m in
    record { some = omega arith; long = turn.0; within = turn.1 }

pub in_turn : (items : List Item) (text : List ℕ) (span : Span) → IsMatch items text span
    → InTurn items text span.start span.end
in_turn [] text span m = absurd m
in_turn (i ∷ items) text span m = m

-- all of some elements
abbrev Each : (Item → Type 0) → List Item → Type 0
Each P [] = Unit {0}
Each P (i ∷ items) = P i × Each P items

each_both : (P : Item → Type 0) (a b : List Item) → Each P a → Each P b → Each P (a ++ b)
each_both P [] b h k = k
each_both P (i ∷ a) b h k = (h.0, each_both P a b h.1 k)

-- those of single characters
abbrev IsOfOne : Item → Type 0
IsOfOne i = (text : List ℕ) (at end : ℕ) → Matches i text at end → end ≡ at + 1

turn_exact : (items : List Item) (text : List ℕ) (at end : ℕ) → Each IsOfOne items → InTurn items text at end
    → end ≡ at + length items
turn_exact [] text at end h m = omega arith
turn_exact (i ∷ items) text at end h m =
    let one = h.0 text at m.0 m.1 in
    let later = turn_exact items text m.0 end h.1 m.2 in
    omega arith

literals_of_one : (exact : Bool) (text : List ℕ) → Each IsOfOne (literals exact text)
literals_of_one exact [] = tt
literals_of_one exact (b ∷ text) = (λ t at end m. m.ends, literals_of_one exact text)

module _ (registers : Registers) (exact : Bool) where
  abbrev items : List Part → List Item
  items ps = flat_map (items_of registers exact) ps

  of_one : (ps : List Part) → All IsSingle ps → Each IsOfOne (items ps)
  of_one [] h = tt
  of_one (part.Item (item.Is c) ∷ ps) h =
      (λ text at end m. m.ends, of_one ps (All-tail IsSingle (part.Item (item.Is c)) ps h))
  of_one (part.Item (item.IsNot c) ∷ ps) h =
      (λ text at end m. m.ends, of_one ps (All-tail IsSingle (part.Item (item.IsNot c)) ps h))
  of_one (part.Item item.Blanks ∷ ps) h = absurd (All-head IsSingle (part.Item item.Blanks) ps h)
  of_one (part.Register r ∷ ps) h =
      each_both IsOfOne (literals exact (pair_of r registers).text) (items ps)
      (literals_of_one exact (pair_of r registers).text) (of_one ps (All-tail IsSingle (part.Register r) ps h))

  pub match_exact : (ps : List Part) (text : List ℕ) (span : Span) → All IsSingle ps → IsMatch (items ps) text span
      → span.end ≡ span.start + length (items ps)
  match_exact ps text span h m =
      turn_exact (items ps) text span.start span.end (of_one ps h) (in_turn (items ps) text span m)

-- ---- classes and line ends
which_end : (b : ℕ) → is_line_end b ≡ true → (b ≡ 10) ⊎ ((b ≡ 11) ⊎ (b ≡ 12))
which_end b e = grind (arith, nat_tests)

none_of : (c : Class) → is_in c 10 ≡ false → is_in c 11 ≡ false → is_in c 12 ≡ false → (b : ℕ) → is_in c b ≡ true
    → is_line_end b ≡ false
none_of c p q r b e = by (is_line_end b) refl where
  by : (x : Bool) → is_line_end b ≡ x → is_line_end b ≡ false
  by false h = h
  by true h = elim (which_end b h) as (λ y. is_line_end b ≡ false) [
    | inl f ↦ absurd (clash (is_in c 10) (ap (is_in c) (sym f) ∙ e) p)
    | inr k ↦ elim k as (λ y. is_line_end b ≡ false) [
      | inl f ↦ absurd (clash (is_in c 11) (ap (is_in c) (sym f) ∙ e) q)
      | inr f ↦ absurd (clash (is_in c 12) (ap (is_in c) (sym f) ∙ e) r)
    ]
  ]

-- an element that no line end matches
abbrev Stays : Item → Type 0
Stays i = (text : List ℕ) (at end : ℕ) → Matches i text at end → (end ≡ at + 1) × (ends text at ≡ false)

stays_by : (c : Class) → is_in c 10 ≡ false → is_in c 11 ≡ false → is_in c 12 ≡ false → Stays (item.Is c)
stays_by c p q r text at end m = (
  m.ends,
  ap is_line_end (get_or_from_slice_get text at m.has.0 0 m.has.1) ∙ none_of c p q r m.has.0 m.has.2,
)

upper_is : (b k : ℕ) → is_letter b ≡ true → k < 13 → (k == to_upper b) ≡ false
upper_is b k e h = grind (arith, nat_tests)

literal_stays : (exact : Bool) (b : ℕ) → IsNoEnd b → Stays (item.Is (literal exact b))
literal_stays exact b h = by (is_letter b) exact refl where
  apart : (k : ℕ) → 10 ≤ k → k ≤ 12 → IsNoEnd b → (k == b) ≡ false
  apart k x y (inl l) = grind (arith, nat_tests)
  apart k x y (inr l) = grind (arith, nat_tests)

  plain : Stays (item.Is (class.Literal b))
  plain = stays_by (class.Literal b) (apart 10 (omega arith) (omega arith) h) (apart 11 (omega arith) (omega arith) h)
      (apart 12 (omega arith) (omega arith) h)

  by : (x y : Bool) → is_letter b ≡ x
      → Stays (item.Is (if x && not y then class.EitherCase (to_upper b) else class.Literal b))
  by false y e = plain
  by true true e = plain
  by true false e =
      stays_by (class.EitherCase (to_upper b)) (upper_is b 10 e (omega arith)) (upper_is b 11 e (omega arith))
      (upper_is b 12 e (omega arith))

turn_stays : (items : List Item) (text : List ℕ) (at end k : ℕ) → Each Stays items → InTurn items text at end
    → at ≤ k → k < end → ends text k ≡ false
turn_stays [] text at end k h m a b = absurd (omega arith)
turn_stays (i ∷ items) text at end k h m a b =
    let one = h.0 text at m.0 m.1 in
    elim (above_or (at + 1) k) as (λ x. ends text k ≡ false) [
      | inl w ↦ turn_stays items text m.0 end k h.1 m.2 (omega (arith, one.0)) b
      | inr w ↦ subst (λ j. ends text j ≡ false) (omega arith) one.1
    ]

class_stays : (exact : Bool) (c : Class) → HasNoEnd c → Stays (item.Is (class_of exact c))
class_stays exact (class.Literal b) h = literal_stays exact b h
class_stays exact class.Letter h = stays_by class.Letter refl refl refl
class_stays exact class.Digit h = stays_by class.Digit refl refl refl
class_stays exact class.LetterOrDigit h = stays_by class.LetterOrDigit refl refl refl
class_stays exact class.Lower h = stays_by class.Lower refl refl refl
class_stays exact class.Upper h = stays_by class.Upper refl refl refl
class_stays exact (class.EitherCase b) h = absurd h
class_stays exact class.Any h = absurd h
class_stays exact class.Separator h = absurd h
class_stays exact class.LineEnd h = absurd h

-- an element that matches line ends alone
abbrev Closes : Item → Type 0
Closes i = (text : List ℕ) (at end : ℕ) → Matches i text at end → (end ≡ at + 1) × (ends text at ≡ true)

closes_by : (c : Class) → ((b : ℕ) → is_in c b ≡ true → is_line_end b ≡ true) → Closes (item.Is c)
closes_by c all text at end m =
    (m.ends, ap is_line_end (get_or_from_slice_get text at m.has.0 0 m.has.1) ∙ all m.has.0 m.has.2)

which_byte : (b : ℕ) → 10 ≤ b → b ≤ 12 → (b ≡ 10) ⊎ ((b ≡ 11) ⊎ (b ≡ 12))
which_byte b h k = grind arith

same_end : (k b : ℕ) → is_line_end k ≡ true → (b == k) ≡ true → is_line_end b ≡ true
same_end k b e f = let g : b ≡ k = grind (arith, nat_tests) in ap is_line_end g ∙ e

class_closes : (exact : Bool) (c : Class) → HasEnds c → Closes (item.Is (class_of exact c))
class_closes exact (class.Literal b) h = elim (which_byte b h.0 h.1) as (λ x. Closes (item.Is (literal exact b))) [
  | inl e ↦ subst (λ k. Closes (item.Is (literal exact k))) (sym e)
      (closes_by (class.Literal 10) (λ d f. same_end 10 d refl f))
  | inr k ↦ elim k as (λ x. Closes (item.Is (literal exact b))) [
    | inl e ↦ subst (λ k. Closes (item.Is (literal exact k))) (sym e)
        (closes_by (class.Literal 11) (λ d f. same_end 11 d refl f))
    | inr e ↦ subst (λ k. Closes (item.Is (literal exact k))) (sym e)
        (closes_by (class.Literal 12) (λ d f. same_end 12 d refl f))
  ]
]
class_closes exact class.LineEnd h = closes_by class.LineEnd (λ b e. e)
class_closes exact class.Letter h = absurd h
class_closes exact class.Digit h = absurd h
class_closes exact class.LetterOrDigit h = absurd h
class_closes exact class.Lower h = absurd h
class_closes exact class.Upper h = absurd h
class_closes exact (class.EitherCase b) h = absurd h
class_closes exact class.Any h = absurd h
class_closes exact class.Separator h = absurd h

pub turn_split : (a b : List Item) (text : List ℕ) (at end : ℕ) → InTurn (a ++ b) text at end
    → (middle : ℕ) × InTurn a text at middle × InTurn b text middle end
turn_split [] b text at end m = (at, refl, m)
turn_split (i ∷ a) b text at end m =
    let later = turn_split a b text m.0 end m.2 in (later.0, (m.0, m.1, later.1), later.2)

module _ (registers : Registers) (exact : Bool) where
  abbrev pub items_in : List Part → List Item
  items_in ps = flat_map (items_of registers exact) ps

  stay : (ps : List Part) → All StaysInLine ps → Each Stays (items_in ps)
  stay [] h = tt
  stay (part.Item (item.Is c) ∷ ps) h = (
    class_stays exact c (All-head StaysInLine (part.Item (item.Is c)) ps h),
    stay ps (All-tail StaysInLine (part.Item (item.Is c)) ps h),
  )
  stay (part.Item (item.IsNot c) ∷ ps) h = absurd (All-head StaysInLine (part.Item (item.IsNot c)) ps h)
  stay (part.Item item.Blanks ∷ ps) h = absurd (All-head StaysInLine (part.Item item.Blanks) ps h)
  stay (part.Register r ∷ ps) h = absurd (All-head StaysInLine (part.Register r) ps h)

  pub match_stays : (ps : List Part) (text : List ℕ) (span : Span) (k : ℕ) → All StaysInLine ps
      → IsMatch (items_in ps) text span → span.start ≤ k → k < span.end → ends text k ≡ false
  match_stays ps text span k h m a b =
      turn_stays (items_in ps) text span.start span.end k (stay ps h) (in_turn (items_in ps) text span m) a b

  last_closes : (front : List Part) (c : Class) (text : List ℕ) (at end : ℕ) → HasEnds c
      → InTurn (items_in (front ++ part.Item (item.Is c) ∷ [])) text at end
      → (k : ℕ) × (k + 1 ≡ end) × (ends text k ≡ true)
  last_closes [] c text at end h m =
      let one = class_closes exact c h text at m.0 m.1 in
      let there : m.0 ≡ end = m.2 in (at, omega (arith, one.0), one.1)
  last_closes (p ∷ front) c text at end h m =
      let split = turn_split (items_of registers exact p) (items_in (front ++ part.Item
      (item.Is c) ∷ [])) text at end m in
      last_closes front c text split.0 end h split.2

  pub match_closes : (ps : List Part) (text : List ℕ) (span : Span) → EndsLine ps → IsMatch (items_in ps) text span
      → (k : ℕ) × (k + 1 ≡ span.end) × (ends text k ≡ true)
  match_closes ps text span h m =
      last_closes h.0 h.1 text span.start span.end h.3
      (subst (λ qs. InTurn (items_in qs) text span.start span.end) h.2 (in_turn (items_in ps) text span m))
