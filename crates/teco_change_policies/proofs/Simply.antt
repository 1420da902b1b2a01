-- Search texts of characters and of runs of blanks: what pattern they say, and what a match is made of.
use Rattle.std.proofs.Common.{◌≡◌, ◌⊎◌, inl, inr, ℕ, zero, suc, ◌≤◌, List, [], ◌∷◌, length, Bool, true, false}
use Rattle.std.proofs.Common.{◌||◌, ◌&&◌, ◌==◌, cond, not, refl, sym, subst, ap, ◌∙◌, arith, eqb-true, Some, None}
use Rattle.std.proofs.lemmas.List.Elements.{All-append, All-cons, All-head, All-nil, All-tail}
use Rattle.std.specs.Option.{option_map_or}
use Rattle.std.specs.Prelude.{All, Result, Ok, flat_map, ⊤}
use Rattle.teco_base.specs.Bytes.{is_letter, is_line_end}
use Rattle.teco_base.specs.Results.{◌>>=◌}
use Rattle.teco_base.specs.declared.code.Code.{Code}
use Rattle.teco_change_policies.specs.Laws.{IsWithinLine}
use Rattle.teco_change_policies.specs.Simple.{IsSimple, reads_on}
use Rattle.teco_change_policies.specs.declared.simple.Mark.{Mark}
use Rattle.teco_change_policies.specs.declared.simple.Mark.TheVariants.{Caret, Extended, Nothing}
use Rattle.teco_change_policies.proofs.Plainly.{literal_within}
use Rattle.teco_changes.specs.Changes.{IsMatch}
use Rattle.teco_changes.specs.Plain.{is_sign}
use Rattle.teco_changes.proofs.Matches.{Only, piece_is}
use Rattle.teco_changes.proofs.Plainly.{plain_part}
use Rattle.teco_model.specs.Match.{is_space_or_tab}
use Rattle.teco_model.specs.Pattern.{caret, class_from, extended, items_of, literal, negated, part_at, part_from, parts}
use Rattle.teco_model.specs.Pattern.{parts_within, pattern, positive}
use Rattle.teco_model.specs.Registers.{Registers}
use Rattle.teco_model.specs.declared.pattern.Class.TheVariants as class
use Rattle.teco_model.specs.declared.pattern.Item.{Item}
use Rattle.teco_model.specs.declared.pattern.Item.TheVariants as item
use Rattle.teco_model.specs.declared.pattern.Part.{Part}
use Rattle.teco_model.specs.declared.pattern.Part.TheVariants as part

-- a part of such a text: a run of blanks, or a character that is so
abbrev pub IsSimplePart : (ℕ → Type 0) → Part → Type 0
IsSimplePart P (part.Item (item.Is (class.Literal b))) = P b
IsSimplePart P (part.Item item.Blanks) = ⊤
IsSimplePart P p = ⊥

pub record AreSaid (P : ℕ → Type 0) (read : Result (List Part) Code) : Type 0 where
  pub parts : List Part
  pub is : read ≡ Ok parts
  pub each : All (IsSimplePart P) parts

-- ---- the part at the front
neither : (s t : Bool) → (s || t) ≡ false → (s ≡ false) × (t ≡ false)
neither true t e = absurd cc
neither false t e = (refl, e)

either : (s t : Bool) → (s || t) ≡ true → (s ≡ true) ⊎ (t ≡ true)
either true t e = inl refl
either false t e = inr e

module _ (b : ℕ) (rest : List ℕ) (e5 : (b == 5) ≡ false) (e14 : (b == 14) ≡ false) (e17 : (b == 17) ≡ false)
    (e19 : (b == 19) ≡ false) (e24 : (b == 24) ≡ false) (e94 : (b == 94) ≡ false)
  where
    class_is : class_from b rest ≡ Ok (class.Literal b, rest)
    class_is = rw (e24, e19, e17, e5, e14) refl

    part_is : part_from b rest ≡ Ok (plain_part b, rest)
    part_is =
        ap (λ t. cond t (negated rest) (cond (b == 5) (extended rest) (positive (class_from b rest)))) e14
        ∙ ap (λ t. cond t (extended rest) (positive (class_from b rest))) e5
        ∙ ap (λ r. positive r) class_is

    front_is : part_at (b ∷ rest) ≡ Ok (plain_part b, rest)
    unfolding part_at
    front_is =
        ap (λ t. (cond t (caret rest) (Ok (b, rest))) >>= (λ sign. part_from sign.0 sign.1)) e94
        ∙ part_is

character_front : (b : ℕ) (rest : List ℕ) → is_sign b ≡ false → part_at (b ∷ rest) ≡ Ok (plain_part b, rest)
character_front b rest e =
    let f5 = neither (b == 5) (b == 14 || (b == 17 || (b == 19 || (b == 24 || b == 94)))) e in
    let f14 = neither (b == 14) (b == 17 || (b == 19 || (b == 24 || b == 94))) f5.1 in
    let f17 = neither (b == 17) (b == 19 || (b == 24 || b == 94)) f14.1 in
    let f19 = neither (b == 19) (b == 24 || b == 94) f17.1 in
    let f24 = neither (b == 24) (b == 94) f19.1 in
    front_is b rest f5.0 f14.0 f17.0 f19.0 f24.0 f24.1

abbrev Blanks : List ℕ → Result (Part × List ℕ) Code
Blanks rest = Ok (part.Item item.Blanks, rest)

short_front : (d : ℕ) (rest : List ℕ) → (d == 83 || d == 115) ≡ true → part_at (5 ∷ d ∷ rest) ≡ Blanks rest
unfolding part_at
short_front d rest e =
    elim (either (d == 83) (d == 115) e) [
      | inl same ↦ subst (λ x. part_at (5 ∷ x ∷ rest) ≡ Blanks rest) (sym (eqb-true d 83 same)) refl
      | inr same ↦ subst (λ x. part_at (5 ∷ x ∷ rest) ≡ Blanks rest) (sym (eqb-true d 115 same)) refl
    ]

as_short : (c : ℕ) (text : List ℕ) → (c == 69 || c == 101) ≡ true → part_at (94 ∷ c ∷ text) ≡ part_at (5 ∷ text)
unfolding part_at
as_short c text e =
    elim (either (c == 69) (c == 101) e) [
      | inl same ↦ subst (λ x. part_at (94 ∷ x ∷ text) ≡ part_at (5 ∷ text)) (sym (eqb-true c 69 same)) refl
      | inr same ↦ subst (λ x. part_at (94 ∷ x ∷ text) ≡ part_at (5 ∷ text)) (sym (eqb-true c 101 same)) refl
    ]

on : (t : Bool) (next : Mark) (text : List ℕ)
    → option_map_or (λ m. reads_on m text) (cond t (Some next) None) false ≡ true
    → (t ≡ true) × (reads_on next text ≡ true)
on true next text e = (refl, e)
on false next text e = absurd cc

-- ---- all parts
module _ (P : ℕ → Type 0) where
  abbrev Parts : ℕ → List ℕ → Type 0
  Parts n text = AreSaid P (parts_within n text)

  abbrev Shorter : ℕ → Type 0
  Shorter n = (text : List ℕ) → length text ≤ n → IsSimple text → All P text → Parts n text

  with_first : (n : ℕ) (b : ℕ) (text rest : List ℕ) (first : Part) → part_at (b ∷ text) ≡ Ok (first, rest)
      → IsSimplePart P first → Parts n rest → Parts (suc n) (b ∷ text)
  unfolding parts_within
  with_first n b text rest first reads so h = record {
    parts = first ∷ h.parts;
    is = ap (λ r. r >>= (λ read. parts_within n read.1 >>= (λ others. Ok (read.0 ∷ others)))) reads
        ∙ ap (λ r. r >>= (λ others. Ok (first ∷ others))) h.is;
    each = All-cons (IsSimplePart P) first h.parts so h.each;
  }

  at_extended : (n : ℕ) (text : List ℕ) → length text ≤ n → reads_on Extended text ≡ true → All P text → Shorter n
      → (b : ℕ) (front : List ℕ) → part_at (b ∷ front) ≡ part_at (5 ∷ text) → Parts (suc n) (b ∷ front)
  at_extended n [] few simple each others b front same = absurd cc
  at_extended n (d ∷ rest) few simple each others b front same =
      let both = on (d == 83 || d == 115) Nothing rest simple in
      with_first n b front rest (part.Item item.Blanks) (same ∙ short_front d rest both.0) tt
      (others rest (omega arith) both.1 (All-tail P d rest each))

  at_caret : (n : ℕ) (text : List ℕ) → length text ≤ n → reads_on Caret text ≡ true → All P text → Shorter n
      → Parts (suc n) (94 ∷ text)
  at_caret n [] few simple each others = absurd cc
  at_caret n (c ∷ text) few simple each others =
      let both = on (c == 69 || c == 101) Extended text simple in
      at_extended n text (omega arith) both.1 (All-tail P c text each) others 94 (c ∷ text)
      (as_short c text both.0)

  at_nothing : (t s u : Bool) (n b : ℕ) (text : List ℕ) → (b == 94) ≡ t → (b == 5) ≡ s → is_sign b ≡ u
      → length text ≤ n
      → option_map_or (λ m. reads_on m text)
      (cond t (Some Caret) (cond s (Some Extended) (cond u None (Some Nothing)))) false ≡ true
      → All P (b ∷ text) → Shorter n → Parts (suc n) (b ∷ text)
  at_nothing true s u n b text caret e g few simple each others =
      subst (λ x. Parts (suc n) (x ∷ text)) (sym (eqb-true b 94 caret))
      (at_caret n text few simple (All-tail P b text each) others)
  at_nothing false true u n b text f extended g few simple each others =
      at_extended n text few simple (All-tail P b text each) others b text
      (ap (λ x. part_at (x ∷ text)) (eqb-true b 5 extended))
  at_nothing false false true n b text f e g few simple each others = absurd cc
  at_nothing false false false n b text f e plain few simple each others =
      with_first n b text text (plain_part b) (character_front b text plain) (All-head P b text each)
      (others text few simple (All-tail P b text each))

  within : (n : ℕ) → Shorter n
  unfolding parts_within
  within zero [] few simple each = record { parts = []; is = refl; each = All-nil (IsSimplePart P) }
  within zero (b ∷ text) few simple each = absurd (omega arith)
  within (suc n) [] few simple each = record { parts = []; is = refl; each = All-nil (IsSimplePart P) }
  within (suc n) (b ∷ text) few simple each =
      at_nothing (b == 94) (b == 5) (is_sign b) n b text refl refl refl (omega arith) simple each (within n)

  pub said_parts : (text : List ℕ) → IsSimple text → All P text → AreSaid P (parts text)
  unfolding parts
  said_parts text simple each = within (length text) text (omega arith) simple each

-- what such parts stand for
pub says : (P : ℕ → Type 0) (registers : Registers) (exact : Bool) (text : List ℕ) → (h : AreSaid P (parts text))
    → pattern registers exact text ≡ Ok (flat_map (items_of registers exact) h.parts)
says P registers exact text h = ap (λ r. r >>= (λ ps. Ok (flat_map (items_of registers exact) ps))) h.is

-- ---- what a match is made of, by the characters that are looked for
module _ (P Q : ℕ → Type 0) (registers : Registers) (exact : Bool)
    (literals : (b : ℕ) → P b → Only Q (item.Is (literal exact b))) (blanks : Only Q item.Blanks) where
  part_only : (p : Part) → IsSimplePart P p → All (Only Q) (items_of registers exact p)
  part_only (part.Item (item.Is (class.Literal b))) is =
      All-cons (Only Q) (item.Is (literal exact b)) [] (literals b is) (All-nil (Only Q))
  part_only (part.Item item.Blanks) is = All-cons (Only Q) item.Blanks [] blanks (All-nil (Only Q))
  part_only p is = absurd is

  parts_only : (ps : List Part) → All (IsSimplePart P) ps → All (Only Q) (flat_map (items_of registers exact) ps)
  parts_only [] each = All-nil (Only Q)
  parts_only (p ∷ ps) each =
      All-append (Only Q) (items_of registers exact p) (flat_map (items_of registers exact) ps)
      (part_only p (All-head (IsSimplePart P) p ps each)) (parts_only ps (All-tail (IsSimplePart P) p ps each))

pub simple_match : (P Q : ℕ → Type 0) (wanted taken : List ℕ) → IsSimple wanted → All P wanted
    → ((exact : Bool) (b : ℕ) → P b → Only Q (item.Is (literal exact b))) → Only Q item.Blanks
    → IsMatch wanted taken → All Q taken
simple_match P Q wanted taken simple each literals blanks h =
    let read = said_parts P wanted simple each in
    let items : List Item = flat_map (items_of h.registers h.exact) read.parts in
    let read_so : Ok items ≡ Ok h.said = sym (says P h.registers h.exact wanted read) ∙ h.says in
    let same : items ≡ h.said = cc in
    (piece_is Q h.said
    (subst (λ l. All (Only Q) l) same
    (parts_only P Q h.registers h.exact (literals h.exact) blanks read.parts read.each))
    taken h.behind h.leaves).0

no_blank_ends : (b : ℕ) → is_space_or_tab b ≡ true → is_line_end b ≡ false
no_blank_ends b e =
    elim (either (b == 32) (b == 9) e) [
      | inl same ↦ subst (λ x. is_line_end x ≡ false) (sym (eqb-true b 32 same)) refl
      | inr same ↦ subst (λ x. is_line_end x ≡ false) (sym (eqb-true b 9 same)) refl
    ]

-- a match has no line end, if the search text has none
pub no_match_ends : (wanted taken : List ℕ) → IsSimple wanted → IsWithinLine wanted → IsMatch wanted taken
    → IsWithinLine taken
no_match_ends wanted taken simple inside h =
    simple_match (λ b. is_line_end b ≡ false) (λ b. is_line_end b ≡ false) wanted taken simple inside
    (λ exact b e. literal_within (is_letter b && not exact) b e) no_blank_ends h
