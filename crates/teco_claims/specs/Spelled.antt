-- Which claims have a text.
use Rattle.std.specs.Prelude.{ℕ, ◌+◌, ◌*◌, ◌<◌, ◌≤◌, ◌^◌, ⊤, List, length, Option, Some, None, IfSome}
use Rattle.std.specs.Int.{IsGcd}
use Rattle.std.specs.List.{AllByRecursion, AllAdjacentBelow}
use Rattle.teco_base.specs.declared.TheConstants.{REGISTERS}
use Rattle.teco_claims.specs.declared.term.ClaimMeasure.{ClaimMeasure}
use Rattle.teco_claims.specs.declared.term.ClaimMeasure.TheVariants.{One, Number, Length, Turns}
use Rattle.teco_claims.specs.declared.term.ClaimMeasure.TheVariants.{PushedNumber, PushedLength}
use Rattle.teco_claims.specs.declared.term.ClaimSingle.{ClaimSingle}
use Rattle.teco_claims.specs.declared.term.ClaimSingle.TheVariants.{Steps, Pointer, Size, Held, LineEnd, LineStart}
use Rattle.teco_claims.specs.declared.term.ClaimSingle.TheVariants.{LastLength, Typed, EntryHeld}
use Rattle.teco_claims.specs.declared.term.Fraction.{Fraction}
use Rattle.teco_claims.specs.declared.term.ClaimTerm.{ClaimTerm}
use Rattle.teco_claims.specs.declared.term.TheConstants.{MAX_POWER, MAX_TERMS}
use Rattle.teco_claims.specs.Values.{AtCut, Claimed}
use Rattle.teco_poly.specs.Reading.{IsPoly}

-- the registers there are, and places of 32 bits
abbrev pub IsMeasure : ClaimMeasure → Type 0
IsMeasure (One single) = ⊤
IsMeasure (Number register) = register < REGISTERS
IsMeasure (Length register) = register < REGISTERS
IsMeasure (Turns begin) = begin < 2 ^ 32
IsMeasure (PushedNumber pair) = pair < 2 ^ 32
IsMeasure (PushedLength pair) = pair < 2 ^ 32

-- a fraction above 0 in lowest terms, whose numbers a signed one of 128 bits holds
pub record IsLowest (fraction : Fraction) : Type 0 where
  pub some : 0 < fraction.numerator
  pub numerator : fraction.numerator < 2 ^ 127
  pub divisor : fraction.divisor < 2 ^ 127
  pub lowest : IsGcd fraction.numerator fraction.divisor 1

-- a coefficient, a power and a measure that have a text
pub record IsTerm (term : ClaimTerm) : Type 0 where
  pub coefficient : IsLowest term.coefficient
  pub power : term.power ≤ MAX_POWER
  pub measure : IfSome term.measure IsMeasure

-- where a measure stands among the others: by its letter (n as if it were q), and then by its number
abbrev pub single_place : ClaimSingle → ℕ
single_place Steps = 1
single_place LineEnd = 2
single_place Held = 3
single_place EntryHeld = 4
single_place LastLength = 6
single_place Typed = 7
single_place Pointer = 8
single_place LineStart = 11
single_place Size = 13

-- those of registers, iterations and pairs also by their numbers
abbrev pub measure_place : ClaimMeasure → ℕ
measure_place (One single) = single_place single * 2 ^ 33
measure_place (PushedNumber pair) = 5 * 2 ^ 33 + 2 * pair
measure_place (PushedLength pair) = 5 * 2 ^ 33 + (2 * pair + 1)
measure_place (Number register) = 9 * 2 ^ 33 + register
measure_place (Turns begin) = 10 * 2 ^ 33 + begin
measure_place (Length register) = 12 * 2 ^ 33 + register

-- what has no measure stands first
abbrev pub place : Option ClaimMeasure → ℕ
place None = 0
place (Some measure) = measure_place measure

-- by measure, and then by the power of N
abbrev pub StandsBefore : ClaimTerm → ClaimTerm → Type 0
StandsBefore term next =
    place term.measure * 2 ^ 32 + term.power < place next.measure * 2 ^ 32 + next.power

-- each term stands before the next
abbrev pub TermsRise : List ClaimTerm → Type 0
TermsRise terms = AllAdjacentBelow StandsBefore terms (length terms)

-- not too many terms, which stand in order
pub record AreTerms (terms : List ClaimTerm) : Type 0 where
  pub few : length terms ≤ MAX_TERMS
  pub each : AllByRecursion IsTerm terms
  pub rise : TermsRise terms

-- a claim has terms
pub record IsClaim (terms : List ClaimTerm) : Type 0 where
  pub some : 0 < length terms
  pub are : AreTerms terms

-- an element's number of 64 bits, and claims
pub record IsCut (cut : AtCut) : Type 0 where
  pub point : cut.point < 2 ^ 64
  pub each : AllByRecursion IsClaim cut.claims

-- polynomials that a `Poly` may be, and cut points
pub record IsSpelled (claimed : Claimed) : Type 0 where
  pub commands : IsPoly claimed.commands
  pub size : IsPoly claimed.size
  pub grows : IfSome claimed.grows IsPoly
  pub types : IfSome claimed.types IsPoly
  pub cuts : AllByRecursion IsCut claimed.cuts
