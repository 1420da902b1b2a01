-- Where a text of literals is found.
use Rattle.std.proofs.Common.{◌≡◌, ◌≢◌, ◌⊎◌, inl, inr, ℕ, suc, ◌+◌, ◌-◌, ◌<◌, ◌≤◌, Bool, true, false, cond, not}
use Rattle.std.proofs.Common.{◌&&◌, List, [], ◌∷◌, length, take, drop, get_or, refl, sym, ap, ◌∙◌, subst, arith}
use Rattle.std.proofs.Common.{eqb-true}
use Rattle.std.proofs.Math.Seq.{drop-cons}
use Rattle.std.proofs.lemmas.Bool.{eq-eqb, or_parts}
use Rattle.std.proofs.lemmas.List.{length-drop}
use Rattle.std.proofs.lemmas.Option.{get_or_from_slice_get, slice_get-get_or, slice_get_within}
use Rattle.std.specs.Int.{is_in_range}
use Rattle.std.specs.Prelude.{◌↔◌, flat_map, map, nat_le, nat_lt, slice_get, IsTrue, Some}
use Rattle.teco_base.specs.Bytes.{is_letter, to_upper}
use Rattle.teco_model.specs.Match.{is_in}
use Rattle.teco_model.specs.Pattern as model
use Rattle.teco_model.specs.declared.pattern.Class.TheVariants as class
use Rattle.teco_model.specs.declared.pattern.Span.{Span}
use Rattle.teco_model.specs.laws.Matching.{HasAt, InTurn, IsMatch, IsOne}
use Rattle.teco_parameters.specs.Quoting.{quotation, folded, FindsAlone, StandsAt}
use Rattle.teco_parameters.proofs.Quotations.{says}

-- a byte that is no letter is the only one whose upper case it is
outside : (lo hi b : ℕ) (s t : Bool) → nat_le lo b ≡ s → nat_le b hi ≡ t → (s && t) ≡ false → (b < lo) ⊎ (hi < b)
outside lo hi b true true e f h = absurd cc
outside lo hi b true false e f h = inr (grind arith)
outside lo hi b false t e f h = inl (grind arith)

upper_is : (s t : Bool) (c n : ℕ) → nat_lt c 97 ≡ s → nat_lt c 123 ≡ t → n ≡ cond s c (cond t (c - 32) c)
    → (n ≡ c) ⊎ (97 ≤ c × c < 123 × n ≡ c - 32)
upper_is true t c n e f h = inl h
upper_is false true c n e f h = inr (grind arith, grind arith, h)
upper_is false false c n e f h = inl h

no_letter : (b c : ℕ) → is_letter b ≡ false → to_upper c ≡ to_upper b → c ≡ b
no_letter b c plain same =
    let ranges = or_parts (is_in_range 65 90 b) (is_in_range 97 122 b) plain in
    let upper = outside 65 90 b (nat_le 65 b) (nat_le b 90) refl refl ranges.0 in
    let lower = outside 97 122 b (nat_le 97 b) (nat_le b 122) refl refl ranges.1 in
    let of_b = upper_is (nat_lt b 97) (nat_lt b 123) b (to_upper b) refl refl refl in
    let of_c = upper_is (nat_lt c 97) (nat_lt c 123) c (to_upper b) refl refl (sym same) in
    grind arith

-- a byte is of the class of a literal, as a test of it
class_sees : (t exact : Bool) (b c : ℕ) → is_letter b ≡ t
    → IsTrue (is_in (cond (t && not exact) (class.EitherCase (to_upper b)) (class.Literal b)) c)
    → folded exact c ≡ folded exact b
class_sees true true b c e h = eqb-true c b h
class_sees true false b c e h = eqb-true (to_upper c) (to_upper b) h
class_sees false true b c e h = eqb-true c b h
class_sees false false b c e h = ap to_upper (eqb-true c b h)

class_has : (t exact : Bool) (b c : ℕ) → is_letter b ≡ t → folded exact c ≡ folded exact b
    → IsTrue (is_in (cond (t && not exact) (class.EitherCase (to_upper b)) (class.Literal b)) c)
class_has true true b c e h = eq-eqb c b h
class_has true false b c e h = eq-eqb (to_upper c) (to_upper b) h
class_has false true b c e h = eq-eqb c b h
class_has false false b c e h = eq-eqb c b (no_letter b c e h)

-- the bytes of a text at a place of another, up to case
abbrev Same : Bool → List ℕ → List ℕ → ℕ → Type 0
Same exact text within start = map (folded exact) (take (length text) (drop start within)) ≡ map (folded exact) text

one_more : (exact : Bool) (b c : ℕ) (text rest : List ℕ) → folded exact c ≡ folded exact b
    → map (folded exact) (take (length text) rest) ≡ map (folded exact) text
    → map (folded exact) (take (suc (length text)) (c ∷ rest)) ≡ map (folded exact) (b ∷ text)
one_more exact b c text rest e h = cc

-- what stands at a place, and from there on
record Here (within : List ℕ) (start c : ℕ) : Type 0 where
  inside : start < length within
  at : slice_get within start ≡ Some c
  from : drop start within ≡ c ∷ drop (suc start) within

here : (within : List ℕ) (start c : ℕ) → slice_get within start ≡ Some c → Here within start c
here within start c h =
    let inside = slice_get_within within start c h in
    let is = get_or_from_slice_get within start c 0 h in
    record {
      inside = inside;
      at = h;
      from = drop-cons within start 0 inside ∙ ap (λ x. x ∷ drop (suc start) within) is;
    }

front : (exact : Bool) (b : ℕ) (text rest : List ℕ)
    → map (folded exact) (take (suc (length text)) rest) ≡ map (folded exact) (b ∷ text) → 0 < length rest
front exact b text [] h = absurd cc
front exact b text (c ∷ rest) h = omega arith

parted : (exact : Bool) (b c : ℕ) (text rest : List ℕ)
    → map (folded exact) (take (suc (length text)) (c ∷ rest)) ≡ map (folded exact) (b ∷ text)
    → (folded exact c ≡ folded exact b) × (map (folded exact) (take (length text) rest) ≡ map (folded exact) text)
parted exact b c text rest h = (cc, cc)

stands : (exact : Bool) (text within : List ℕ) (start end : ℕ) → InTurn (model.literals exact text) within start end
    → (end ≡ start + length text) × Same exact text within start
stands exact [] within start end h = (omega (arith, h), refl)
stands exact (b ∷ text) within start end h =
    let one = h.1 in
    let c = one.has.0 in
    let place = here within start c one.has.1 in
    let next : h.0 ≡ suc start = omega (arith, one.ends) in
    let rest = stands exact text within (suc start) end (subst (λ m. InTurn (model.literals exact text) within m end)
    next h.2) in
    let same = class_sees (is_letter b) exact b c refl one.has.2 in
    (omega (arith, rest.0), rw place.from (one_more exact b c text (drop (suc start) within) same rest.1))

taken : (exact : Bool) (text within : List ℕ) (start end : ℕ) → end ≡ start + length text
    → Same exact text within start → InTurn (model.literals exact text) within start end
taken exact [] within start end ends same = omega (arith, ends)
taken exact (b ∷ text) within start end ends same =
    let some = front exact b text (drop start within) same in
    let inside : start < length within = omega (arith, length-drop start within) in
    let c = get_or within start 0 in
    let parts = parted exact b c text (drop (suc start) within)
    (subst (λ l. map (folded exact) (take (suc (length text)) l) ≡ map (folded exact) (b ∷ text))
    (drop-cons within start 0 inside) same) in
    let has : HasAt (is_in (model.literal exact b)) within start =
    (c, slice_get-get_or within start 0 inside, class_has (is_letter b) exact b c refl parts.0) in
    let one : IsOne (is_in (model.literal exact b)) within start (suc start) =
    record { has = has; ends = omega arith } in
    (suc start, one, taken exact text within (suc start) end (omega (arith, ends)) parts.1)

matched : (exact : Bool) (text within : List ℕ) (span : Span) → text ≢ []
    → IsMatch (model.literals exact text) within span ↔ StandsAt exact text within span
matched exact [] within span some = absurd (some refl)
matched exact (b ∷ text) within span some = (
  (λ h. let s = stands exact (b ∷ text) within span.start span.end h in record { ends = s.0; same = s.1 }),
  (λ h. taken exact (b ∷ text) within span.start span.end h.ends h.same),
)

pub finds_alone : (quoted text : List ℕ) → quoted ≡ flat_map quotation text → text ≢ [] → FindsAlone quoted text
finds_alone quoted text is some registers exact said reads within span =
    let literals : said ≡ model.literals exact text = let l = says quoted text is registers exact in cc in
    rw literals (matched exact text within span some)
