-- The text of claims: lines that end with LF.
use Rattle.std.specs.Prelude.{ℕ, zero, suc, List, [], ◌∷◌, ◌++◌, codes, Bool, true, false, ◌||◌, ◌&&◌, ◌==◌, nat_lt}
use Rattle.std.specs.Prelude.{if◌then◌else◌, Option, Some, None}
use Rattle.std.specs.Fmt.{decimal}
use Rattle.std.specs.List.{flat_map}
use Rattle.std.specs.Option.{is_some}
use Rattle.teco_base.specs.Register.{register_name}
use Rattle.teco_base.specs.declared.bytes.TheConstants.{LF}
use Rattle.teco_claims.specs.declared.term.ClaimMeasure.{ClaimMeasure}
use Rattle.teco_claims.specs.declared.term.ClaimMeasure.TheVariants.{One, Number, Length, Turns}
use Rattle.teco_claims.specs.declared.term.ClaimMeasure.TheVariants.{PushedNumber, PushedLength}
use Rattle.teco_claims.specs.declared.term.ClaimSingle.{ClaimSingle}
use Rattle.teco_claims.specs.declared.term.ClaimSingle.TheVariants.{Steps, Pointer, Size, Held, LineEnd, LineStart}
use Rattle.teco_claims.specs.declared.term.ClaimSingle.TheVariants.{LastLength, Typed, EntryHeld}
use Rattle.teco_claims.specs.declared.term.Fraction.{Fraction}
use Rattle.teco_claims.specs.declared.term.ClaimTerm.{ClaimTerm}
use Rattle.teco_claims.specs.Values.{AtCut, Claimed}
use Rattle.teco_poly.specs.Polynomial.{Polynomial}
use Rattle.teco_poly.specs.Text.{power_text, text}

-- words and an LF
abbrev pub line : List ℕ → List ℕ
line words = words ++ LF ∷ []

-- the letter of a measure that a state has once
abbrev pub single_text : ClaimSingle → List ℕ
single_text Steps = codes "c"
single_text Pointer = codes "p"
single_text Size = codes "z"
single_text Held = codes "h"
single_text LineEnd = codes "e"
single_text LineStart = codes "s"
single_text LastLength = codes "m"
single_text Typed = codes "o"
single_text EntryHeld = codes "i"

-- the name of a measure: that of a register follows n or t, the place of an iteration r, that of a pair k
abbrev pub measure_text : ClaimMeasure → List ℕ
measure_text (One single) = single_text single
measure_text (Number register) = codes "n" ++ register_name register ∷ []
measure_text (Length register) = codes "t" ++ register_name register ∷ []
measure_text (Turns begin) = codes "r" ++ decimal begin
measure_text (PushedNumber pair) = codes "k" ++ (decimal pair ++ codes "n")
measure_text (PushedLength pair) = codes "k" ++ (decimal pair ++ codes "t")

-- no name where there is no measure
abbrev pub name_text : Option ClaimMeasure → List ℕ
name_text None = []
name_text (Some measure) = measure_text measure

-- a divisor of 1 is not written
abbrev pub divisor_text : ℕ → List ℕ
divisor_text divisor = if divisor == 1 then [] else codes "/" ++ decimal divisor

-- a numerator and its divisor
abbrev pub fraction_text : Fraction → List ℕ
fraction_text fraction = decimal fraction.numerator ++ divisor_text fraction.divisor

-- is it 1?
abbrev pub is_one : Fraction → Bool
is_one fraction = fraction.numerator == 1 && fraction.divisor == 1

-- the coefficient before a power or a measure, where a coefficient of 1 is not written
abbrev pub factor_text : Fraction → Bool → List ℕ
factor_text fraction false = fraction_text fraction
factor_text fraction true = if is_one fraction then [] else fraction_text fraction ++ codes "*"

-- does a term have a power or a measure?
abbrev pub has_unit : ClaimTerm → Bool
has_unit term = nat_lt 0 term.power || is_some term.measure

-- what stands between a power and a measure
abbrev pub star_text : ℕ → Option ClaimMeasure → List ℕ
star_text zero measure = []
star_text (suc power) None = []
star_text (suc power) (Some measure) = codes "*"

-- a power of N and a measure
abbrev pub unit_text : ℕ → Option ClaimMeasure → List ℕ
unit_text power measure = power_text power ++ (star_text power measure ++ name_text measure)

-- a term without its sign, as `21/2*N*z`
abbrev pub body_text : ClaimTerm → List ℕ
body_text term = factor_text term.coefficient (has_unit term) ++ unit_text term.power term.measure

-- the sign of the first term: none where it is added
abbrev pub first_sign : Bool → List ℕ
first_sign true = codes "- "
first_sign false = []

-- the sign of another term
abbrev pub next_sign : Bool → List ℕ
next_sign true = codes "- "
next_sign false = codes "+ "

-- the first term behind a space
abbrev pub first_text : ClaimTerm → List ℕ
first_text term = codes " " ++ (first_sign term.is_negative ++ body_text term)

-- another term with its sign
abbrev pub signed_text : ClaimTerm → List ℕ
signed_text term = next_sign term.is_negative ++ body_text term

-- another term behind a space
abbrev pub next_text : ClaimTerm → List ℕ
next_text term = codes " " ++ signed_text term

-- the terms of a claim
abbrev pub terms_text : List ClaimTerm → List ℕ
terms_text [] = []
terms_text (term ∷ terms) = first_text term ++ flat_map next_text terms

-- a claim, as `0 <= 3 + N - c + p - h`
abbrev pub claim_line : List ClaimTerm → List ℕ
claim_line terms = codes "0 <=" ++ line (terms_text terms)

-- the number of a cut point's element and a line for each claim
abbrev pub cut_words : AtCut → List ℕ
cut_words cut = line (decimal cut.point) ++ flat_map claim_line cut.claims

-- a cut point, and then its claims
abbrev pub cut_text : AtCut → List ℕ
cut_text cut = codes "cut " ++ cut_words cut

-- the bound on typed bytes, `-` where none is claimed
abbrev pub types_text : Option Polynomial → List ℕ
types_text None = codes "-"
types_text (Some most) = text most

-- the line of how much longer the text gets, where that is claimed
abbrev pub grows_text : Option Polynomial → List ℕ
grows_text None = []
grows_text (Some most) = line (codes "grows " ++ text most)

-- the printed bounds, and then the cut points
abbrev pub text_of : Claimed → List ℕ
text_of claimed =
    line (codes "commands " ++ text claimed.commands)
    ++ (line (codes "size " ++ text claimed.size)
    ++ (grows_text claimed.grows
    ++ (line (codes "types " ++ types_text claimed.types)
    ++ (flat_map cut_text claimed.cuts
    ++ line (codes "end")))))
