-- Texts as search texts.
use Rattle.std.specs.Prelude.{◌≡◌, ◌↔◌, ℕ, ◌+◌, List, [], ◌∷◌, length, map, take, drop, Bool, if◌then◌else◌, Ok}
use Rattle.teco_base.specs.Bytes.{is_among, to_upper}
use Rattle.teco_model.specs.Pattern.{Pattern, pattern, literals}
use Rattle.teco_model.specs.Registers.{Registers}
use Rattle.teco_model.specs.laws.Matching.{IsMatch}
use Rattle.teco_model.specs.declared.pattern.Span.{Span}

-- ^E, ^N, ^Q, ^S, ^X and the caret stand for more than themselves
abbrev pub begins_control : ℕ → Bool
begins_control b = is_among b (5 ∷ 14 ∷ 17 ∷ 19 ∷ 24 ∷ 94 ∷ [])

-- a byte as a search text: behind ^Q where it stands for more than itself
abbrev pub quotation : ℕ → List ℕ
quotation b = if begins_control b then 17 ∷ b ∷ [] else b ∷ []

-- a search text says the bytes of a text, each a literal, whatever the registers hold
abbrev pub Says : List ℕ → List ℕ → Type 0
Says search text =
    (registers : Registers) (exact : Bool) → pattern registers exact search ≡ Ok (literals exact text)

-- a byte as a search sees it: as it is if the search is exact, else in upper case
abbrev pub folded : Bool → ℕ → ℕ
folded exact b = if exact then b else to_upper b

-- a text stands at a span of another, up to the case of letters unless the search is exact
pub record StandsAt (exact : Bool) (text within : List ℕ) (span : Span) : Type 0 where
  pub ends : span.end ≡ span.start + length text
  pub same : map (folded exact) (take (length text) (drop span.start within)) ≡ map (folded exact) text

-- what a search text finds is this text and no other
abbrev pub FindsAlone : List ℕ → List ℕ → Type 0
FindsAlone search text =
    (registers : Registers) (exact : Bool) (said : Pattern) → pattern registers exact search ≡ Ok said →
    (within : List ℕ) (span : Span) → IsMatch said within span ↔ StandsAt exact text within span
