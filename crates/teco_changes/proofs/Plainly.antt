-- Search texts without classes and registers: what pattern they say, and how long a match is.
use Rattle.std.proofs.Common.{◌≡◌, ℕ, zero, suc, ◌+◌, ◌<◌, ◌≤◌, List, [], ◌∷◌, ◌++◌, length, map, Bool, true, false}
use Rattle.std.proofs.Common.{◌||◌, ◌&&◌, ◌==◌, cond, not, refl, sym, subst, ap, ◌∙◌, arith, eqb-true}
use Rattle.std.proofs.lemmas.List.{length-append}
use Rattle.std.proofs.lemmas.List.Elements.{All-cons, All-head, All-nil, All-tail}
use Rattle.std.specs.List.{list_all}
use Rattle.std.specs.Prelude.{All, Option, Some, None, Result, Ok, flat_map, option_and_then}
use Rattle.teco_base.specs.Results.{◌>>=◌}
use Rattle.teco_base.specs.declared.code.Code.{Code}
use Rattle.teco_changes.specs.Changes.{IsMatch}
use Rattle.teco_changes.specs.Plain.{IsPlain, is_sign, matches_have}
use Rattle.teco_model.specs.Match.{is_in, match_rest, one_rest}
use Rattle.teco_model.specs.Pattern.{caret, class_from, extended, items_of, literal, negated, part_at, part_from, parts}
use Rattle.teco_model.specs.Pattern.{parts_within, pattern, positive}
use Rattle.teco_model.specs.Registers.{Registers}
use Rattle.teco_model.specs.declared.pattern.Class.TheVariants as class
use Rattle.teco_model.specs.declared.pattern.Item.{Item}
use Rattle.teco_model.specs.declared.pattern.Item.TheVariants as item
use Rattle.teco_model.specs.declared.pattern.Part.{Part}
use Rattle.teco_model.specs.declared.pattern.Part.TheVariants as part

neither : (s t : Bool) → (s || t) ≡ false → (s ≡ false) × (t ≡ false)
neither true t e = absurd cc
neither false t e = (refl, e)

abbrev pub plain_part : ℕ → Part
plain_part b = part.Item (item.Is (class.Literal b))

abbrev read : ℕ → List ℕ → Result (Part × List ℕ) Code
read b rest = Ok (plain_part b, rest)

module _ (b : ℕ) (rest : List ℕ) (e5 : (b == 5) ≡ false) (e14 : (b == 14) ≡ false) (e17 : (b == 17) ≡ false)
    (e19 : (b == 19) ≡ false) (e24 : (b == 24) ≡ false) (e94 : (b == 94) ≡ false)
  where
    class_is : class_from b rest ≡ Ok (class.Literal b, rest)
    class_is = rw (e24, e19, e17, e5, e14) refl

    part_is : part_from b rest ≡ read b rest
    part_is =
        ap (λ t. cond t (negated rest) (cond (b == 5) (extended rest) (positive (class_from b rest)))) e14
        ∙ ap (λ t. cond t (extended rest) (positive (class_from b rest))) e5
        ∙ ap (λ r. positive r) class_is

    front_is : part_at (b ∷ rest) ≡ read b rest
    unfolding part_at
    front_is =
        ap (λ t. (cond t (caret rest) (Ok (b, rest))) >>= (λ sign. part_from sign.0 sign.1)) e94
        ∙ part_is

plain_front : (b : ℕ) (rest : List ℕ) → is_sign b ≡ false → part_at (b ∷ rest) ≡ read b rest
plain_front b rest e =
    let f5 = neither (b == 5) (b == 14 || (b == 17 || (b == 19 || (b == 24 || b == 94)))) e in
    let f14 = neither (b == 14) (b == 17 || (b == 19 || (b == 24 || b == 94))) f5.1 in
    let f17 = neither (b == 17) (b == 19 || (b == 24 || b == 94)) f14.1 in
    let f19 = neither (b == 19) (b == 24 || b == 94) f17.1 in
    let f24 = neither (b == 24) (b == 94) f19.1 in
    front_is b rest f5.0 f14.0 f17.0 f19.0 f24.0 f24.1

plain_within : (n : ℕ) (text : List ℕ) → length text ≤ n → IsPlain text
    → parts_within n text ≡ Ok (map plain_part text)
unfolding parts_within
plain_within zero [] few plain = refl
plain_within zero (b ∷ text) few plain = absurd (omega arith)
plain_within (suc n) [] few plain = refl
plain_within (suc n) (b ∷ text) few plain =
    ap (λ r. r >>= (λ first. parts_within n first.1 >>= (λ others. Ok (first.0 ∷ others))))
    (plain_front b text (All-head (λ c. is_sign c ≡ false) b text plain))
    ∙ ap (λ r. r >>= (λ others. Ok (plain_part b ∷ others)))
    (plain_within n text (omega arith) (All-tail (λ c. is_sign c ≡ false) b text plain))

pub plain_pattern : (registers : Registers) (exact : Bool) (text : List ℕ) → IsPlain text
    → pattern registers exact text ≡ Ok (flat_map (items_of registers exact) (map plain_part text))
unfolding parts
plain_pattern registers exact text plain =
    ap (λ r. r >>= (λ ps. Ok (flat_map (items_of registers exact) ps)))
    (plain_within (length text) text (omega arith) plain)

-- ---- a match has as many characters
module _ (registers : Registers) (exact : Bool) where
  abbrev Items : List ℕ → List Item
  Items wanted = flat_map (items_of registers exact) (map plain_part wanted)

  abbrev IsAsLong : List ℕ → List ℕ → List ℕ → Type 0
  IsAsLong wanted text rest = length text ≡ length wanted + length rest

  one_passes : (t : Bool) (b c : ℕ) (wanted text rest : List ℕ)
      → (match_rest (Items wanted) text ≡ Some rest → IsAsLong wanted text rest)
      → option_and_then (match_rest (Items wanted)) (cond t (Some text) None) ≡ Some rest
      → IsAsLong (b ∷ wanted) (c ∷ text) rest
  one_passes true b c wanted text rest later h = let n = later h in omega arith
  one_passes false b c wanted text rest later h = absurd cc

  as_long : (wanted text rest : List ℕ) → match_rest (Items wanted) text ≡ Some rest → IsAsLong wanted text rest
  as_long [] text rest h = let same : text ≡ rest = cc in ap (λ l. length l) same ∙ omega arith
  as_long (b ∷ wanted) [] rest h = absurd cc
  as_long (b ∷ wanted) (c ∷ text) rest h =
      one_passes (is_in (literal exact b) c) b c wanted text rest (as_long wanted text rest) h

pub match_length : (wanted taken : List ℕ) → IsPlain wanted → IsMatch wanted taken → length taken ≡ length wanted
match_length wanted taken plain h =
    let items : List Item = flat_map (items_of h.registers h.exact) (map plain_part wanted) in
    let read_so : Ok items ≡ Ok h.said = sym (plain_pattern h.registers h.exact wanted plain) ∙ h.says in
    let same : items ≡ h.said = cc in
    let long = as_long h.registers h.exact wanted (taken ++ h.behind) h.behind
    (subst (λ l. match_rest l (taken ++ h.behind) ≡ Some h.behind) (sym same) h.leaves) in
    let both = length-append taken h.behind in
    omega arith

no_sign : (t : Bool) → not t ≡ true → t ≡ false
no_sign true e = absurd cc
no_sign false e = refl

both_true : (s t : Bool) → (s && t) ≡ true → (s ≡ true) × (t ≡ true)
both_true true true e = (refl, refl)
both_true true false e = absurd cc
both_true false t e = absurd cc

all_plain : (text : List ℕ) → list_all (λ b. not (is_sign b)) text ≡ true → IsPlain text
all_plain [] e = All-nil (λ b. is_sign b ≡ false)
all_plain (b ∷ text) e =
    let both = both_true (not (is_sign b)) (list_all (λ b. not (is_sign b)) text) e in
    All-cons (λ b. is_sign b ≡ false) b text (no_sign (is_sign b) both.0) (all_plain text both.1)

pub as_many : (n : ℕ) (wanted taken : List ℕ) → matches_have n wanted ≡ true → IsMatch wanted taken
    → length taken ≡ n
as_many n wanted taken e h =
    let both = both_true (list_all (λ b. not (is_sign b)) wanted) (length wanted == n) e in
    match_length wanted taken (all_plain wanted both.0) h ∙ eqb-true (length wanted) n both.1
