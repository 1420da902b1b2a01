-- What is asked of search texts: how long matches are, and whether line ends are in them.
use Rattle.std.specs.Prelude.{◌≡◌, ℕ, ◌+◌, ◌≤◌, ◌<◌, pos, List, [], ◌∷◌, ◌++◌, length, flat_map, Bool, true, ⊤, ◌⊎◌}
use Rattle.teco_linear.specs.declared.term.Term.{Term}
use Rattle.teco_linear.specs.Form.{Valuation, value}
use Rattle.teco_model.specs.Match.{is_in, is_space_or_tab}
use Rattle.teco_model.specs.Pattern.{class_of, items_of}
use Rattle.teco_model.specs.Registers.{Registers}
use Rattle.teco_model.specs.declared.pattern.Class.{Class}
use Rattle.teco_model.specs.declared.pattern.Class.TheVariants as class
use Rattle.teco_model.specs.declared.pattern.Item.TheVariants as item
use Rattle.teco_model.specs.declared.pattern.Part.{Part}
use Rattle.teco_model.specs.declared.pattern.Part.TheVariants as part
use Rattle.teco_model.specs.declared.pattern.Span.{Span}
use Rattle.teco_model.specs.laws.Matching.{IsMatch}
use Rattle.teco_model.specs.laws.Whole.{AreBytes, IsWhole}
use Rattle.teco_rows.specs.declared.case.Case.{Case}
use Rattle.teco_rows.specs.States.{Point, IsTrueOf, code_before, code_here}
use Rattle.teco_search_outcomes.specs.declared.patterns.Codes.{Codes}

-- a form is the number of the elements that parts stand for
abbrev pub IsLong : List Part → Case → List Term → Type 0
IsLong parts case form =
    (exact : Bool) (n : ℕ) (v : Valuation) (s : Point)
    → IsTrueOf n v case s → IsWhole s.kept
    → value form n v ≡ pos (length (flat_map (items_of s.kept.registers exact) parts))

-- a part is of single characters
abbrev pub IsSingle : Part → Type 0
IsSingle (part.Item item.Blanks) = ⊥
IsSingle p = ⊤

-- a byte is no line end
abbrev pub IsNoEnd : ℕ → Type 0
IsNoEnd b = (b < 10) ⊎ (12 < b)

-- no line end is of a class, as far as that is plain
abbrev pub HasNoEnd : Class → Type 0
HasNoEnd (class.Literal b) = IsNoEnd b
HasNoEnd class.Letter = ⊤
HasNoEnd class.Digit = ⊤
HasNoEnd class.LetterOrDigit = ⊤
HasNoEnd class.Lower = ⊤
HasNoEnd class.Upper = ⊤
HasNoEnd c = ⊥

-- no line end matches a part
abbrev pub StaysInLine : Part → Type 0
StaysInLine (part.Item (item.Is c)) = HasNoEnd c
StaysInLine p = ⊥

-- all of a class are line ends
abbrev pub HasEnds : Class → Type 0
HasEnds (class.Literal b) = (10 ≤ b) × (b ≤ 12)
HasEnds class.LineEnd = ⊤
HasEnds c = ⊥

-- the last part is a line end
abbrev pub EndsLine : List Part → Type 0
EndsLine parts =
    (front : List Part) × (c : Class) × (parts ≡ front ++ part.Item (item.Is c) ∷ []) × HasEnds c

-- one more than a character's code is so
pub record IsIn (codes : Codes) (code : ℕ) : Type 0 where
  pub least : codes.least ≤ code
  pub most : code ≤ codes.most

-- so it is of all characters of a class, in any mode,
abbrev pub AreCodesOf : Class → Codes → Type 0
AreCodesOf c codes = (exact : Bool) (b : ℕ) → b < 256 → is_in (class_of exact c) b ≡ true → IsIn codes (b + 1)

-- of all characters that a part begins or ends with, where that is plain,
abbrev pub AreCodes : Part → Codes → Type 0
AreCodes (part.Item (item.Is c)) codes = AreCodesOf c codes
AreCodes (part.Item item.Blanks) codes = (b : ℕ) → b < 256 → is_space_or_tab b ≡ true → IsIn codes (b + 1)
AreCodes p codes = (b : ℕ) → b < 256 → IsIn codes (b + 1)

-- of the character that a match of parts begins with,
abbrev pub BeginsIn : List Part → Codes → Type 0
BeginsIn parts codes =
    (registers : Registers) (exact : Bool) (text : List ℕ) (span : Span)
    → AreBytes text → IsMatch (flat_map (items_of registers exact) parts) text span
    → IsIn codes (code_here text span.start)

-- and of that which it ends with
abbrev pub EndsIn : List Part → Codes → Type 0
EndsIn parts codes =
    (registers : Registers) (exact : Bool) (text : List ℕ) (span : Span)
    → AreBytes text → IsMatch (flat_map (items_of registers exact) parts) text span
    → IsIn codes (code_before text span.end)
