-- What outcomes foretell.
use Rattle.std.specs.Prelude.{◌≡◌, ℕ, ℤ, pos, ◌≤ℤ◌, ⊤, Bool, true, false, List, [], ◌∷◌, Option, Some, None, Result}
use Rattle.std.specs.Prelude.{Ok, Err, FitsSigned, int_div, negsuc}
use Rattle.std.specs.Int.{w32}
use Rattle.std.specs.List.{All, Any}
use Rattle.teco_base.specs.declared.code.Code.{Code}
use Rattle.teco_base.specs.Arithmetic.{in_32_bits}
use Rattle.teco_linear.specs.declared.term.Term.{Term}
use Rattle.teco_linear.specs.Form.{Valuation, value}
use Rattle.teco_linear.specs.Implied.{Holds}
use Rattle.teco_model.specs.Arguments.{Arguments, level_with, result_of}
use Rattle.teco_model.specs.Going.{After, after}
use Rattle.teco_model.specs.declared.arguments.Level.{Level}
use Rattle.teco_model.specs.declared.arguments.Operator.{Operator}
use Rattle.teco_model.specs.declared.arguments.Operator.TheVariants.{And, Over}
use Rattle.teco_model.specs.laws.Whole.{IsWhole}
use Rattle.teco_rows.specs.declared.case.Case.{Case}
use Rattle.teco_rows.specs.declared.outcomes.Guarded.{Guarded}
use Rattle.teco_rows.specs.declared.outcomes.Outcomes.{Outcomes}
use Rattle.teco_rows.specs.Cases.{Agree}
use Rattle.teco_rows.specs.States.{Point, IsTrueOf, Describes, behind}

-- no code comes, and what comes has a property
abbrev pub Succeeds : {X : Type 0} → (X → Type 0) → Result X Code → Type 0
Succeeds P (Ok x) = P x
Succeeds P (Err c) = ⊥

-- Where the constraints of a guarded condition hold, with values that differ at most at symbols from its number on, it
-- does.
abbrev pub IsGuarded : ℕ → Valuation → Guarded → Type 0
IsGuarded n v guarded =
    (w : Valuation)
    → Agree guarded.symbols v w → All (Holds n w) guarded.constraints.items → Holds n w guarded.wanted

-- a case is true of a whole state, and the conditions hold with the same values of the symbols
pub record Begins (n : ℕ) (v : Valuation) (case : Case) (outcomes : Outcomes) (s : Point) : Type 0 where
  pub whole : IsWhole s.kept
  pub true_of : IsTrueOf n v case s
  pub conditions : All (Holds n v) outcomes.conditions.items
  pub guarded : All (IsGuarded n v) outcomes.guarded.items

-- one of the cases describes a state
abbrev pub Describe : ℕ → Outcomes → Point → Type 0
Describe n outcomes s = Any (λ case. Describes n case s) outcomes.cases.items

-- Where it begins so, no code comes of what is done, and one of the cases describes the state behind.
abbrev pub Foretells : (Point → Result After Code) → Case → Outcomes → Type 0
Foretells performed case outcomes =
    (n : ℕ) (v : Valuation) (s : Point)
    → Begins n v case outcomes s → Succeeds (λ done. Describe n outcomes (behind s done)) (performed s)

-- the state with another innermost level
abbrev pub with_level : Point → Level → After
with_level s level = after s.kept (record s.arguments { level = level })

-- Where the number that a form is is given, no code comes, and one of the cases describes the state behind.
abbrev pub Gives : List Term → Case → Outcomes → Type 0
Gives form case outcomes =
    (n : ℕ) (v : Valuation) (s : Point)
    → Begins n v case outcomes s
    → Succeeds (λ level. Describe n outcomes (behind s (with_level s level)))
    (level_with (value form n v) s.arguments.level)

-- Where any number of 32 bits is given, no code comes, and one of the cases describes the state behind.
abbrev pub GivesAny : Case → Outcomes → Type 0
GivesAny case all =
    (n : ℕ) (v : Valuation) (s : Point) (x : ℤ)
    → IsTrueOf n v case s → FitsSigned w32 x
    → Succeeds (λ level. Describe n all (behind s (with_level s level))) (level_with x s.arguments.level)

-- does a division wait?
abbrev pub is_over : Option Operator → Bool
is_over (Some Over) = true
is_over operator = false

-- Where it begins so, no code comes of what is done with the pending arguments, and one of the cases describes the
-- state behind.
abbrev pub Rearranges : (Arguments → Result Arguments Code) → Case → Outcomes → Type 0
Rearranges done case outcomes =
    (n : ℕ) (v : Valuation) (s : Point)
    → Begins n v case outcomes s
    → Succeeds (λ arguments. Describe n outcomes (behind s (after s.kept arguments))) (done s.arguments)

-- An operator makes of two numbers what a form is, in 32 bits.
abbrev pub Makes : List Term → Operator → List Term → List Term → Type 0
Makes left operator right form =
    (n : ℕ) (v : Valuation)
    → result_of operator (value left n v) (value right n v) ≡ Ok (in_32_bits (value form n v))

-- a level with a value, and nothing that waits
abbrev pub level_of : Point → ℤ → Level
level_of s x = record { first = s.arguments.level.first; value = Some x; operator = None }

-- the state behind where the innermost level has this value
abbrev pub valued_at : Point → ℤ → Point
valued_at s x = behind s (with_level s (level_of s x))

-- a case describes the state behind where the value is a form
abbrev pub IsValued : Case → List Term → Case → Type 0
IsValued case form after =
    (n : ℕ) (v : Valuation) (s : Point)
    → IsTrueOf n v case s → Describes n after (valued_at s (value form n v))

-- and where the value is any number of 32 bits
abbrev pub IsWrapped : Case → Case → Type 0
IsWrapped case after =
    (n : ℕ) (v : Valuation) (s : Point) (x : ℤ)
    → IsTrueOf n v case s → FitsSigned w32 x → Describes n after (valued_at s x)

-- and where it is any number from 0 to a form
abbrev pub IsMasked : Case → List Term → Case → Type 0
IsMasked case form after =
    (n : ℕ) (v : Valuation) (s : Point) (x : ℤ)
    → IsTrueOf n v case s → pos 0 ≤ℤ x → x ≤ℤ value form n v → Describes n after (valued_at s x)

-- a form is a number from 0 on of which an operator takes the bits
pub record IsMaskOf (operator : Operator) (form : List Term) : Type 0 where
  pub takes : operator ≡ And
  pub least : (n : ℕ) (v : Valuation) → pos 0 ≤ℤ value form n v
  pub most : (n : ℕ) (v : Valuation) → value form n v ≤ℤ pos 2147483647

-- a number that may be divided by, and is not great
pub record IsDivisor (by : ℤ) : Type 0 where
  pub least : pos 1 ≤ℤ by
  pub most : by ≤ℤ pos 16777216

-- a form is such a number, by which an operator divides
pub record Divides (operator : Operator) (form : List Term) (by : ℤ) : Type 0 where
  pub takes : operator ≡ Over
  pub divisor : IsDivisor by
  pub is : (n : ℕ) (v : Valuation) → value form n v ≡ by

-- the two signs of what is divided
abbrev pub IsFromZero : ℤ → Type 0
IsFromZero x = pos 0 ≤ℤ x

abbrev pub IsBelowZero : ℤ → Type 0
IsBelowZero x = x ≤ℤ negsuc 0

-- a case describes the state behind where the value is the quotient of a form that has a sign
abbrev pub IsDivided : (ℤ → Type 0) → ℤ → Case → List Term → Case → Type 0
IsDivided HasSign by case form after =
    (n : ℕ) (v : Valuation) (s : Point)
    → IsTrueOf n v case s → HasSign (value form n v)
    → Describes n after (valued_at s (int_div (value form n v) by))

-- Where a form fits, one of the cases describes the state behind where its quotient is the value; it fits by the
-- conditions.
abbrev pub Quotients : List Term → ℤ → Case → Outcomes → Type 0
Quotients form by case outcomes =
    (n : ℕ) (v : Valuation) (s : Point)
    → Begins n v case outcomes s
    → FitsSigned w32 (value form n v) × Describe n outcomes (valued_at s (int_div (value form n v) by))

-- there is one case
pub record IsOne (wanted : List (List Term)) (case : Case) (all : Outcomes) : Type 0 where
  pub conditions : all.conditions.items ≡ wanted
  pub cases : all.cases.items ≡ case ∷ []

-- there are two cases
pub record AreTwo (wanted : List (List Term)) (first second : Case) (all : Outcomes) : Type 0 where
  pub conditions : all.conditions.items ≡ wanted
  pub cases : all.cases.items ≡ first ∷ second ∷ []

-- Where a form fits, one of the cases describes the state behind where it is the value; it fits by the conditions.
abbrev pub Values : List Term → Case → Outcomes → Type 0
Values form case outcomes =
    (n : ℕ) (v : Valuation) (s : Point)
    → Begins n v case outcomes s
    → FitsSigned w32 (value form n v) × Describe n outcomes (valued_at s (value form n v))

-- what is divided by is at least 1
abbrev pub IsAllowed : Operator → ℤ → Type 0
IsAllowed Over y = pos 1 ≤ℤ y
IsAllowed operator y = ⊤

-- What an operator makes of any number and this one is no code, and one of the cases describes the state behind.
abbrev pub Wraps : Operator → List Term → Case → Outcomes → Type 0
Wraps operator number case outcomes =
    (n : ℕ) (v : Valuation) (s : Point) (left : ℤ)
    → Begins n v case outcomes s
    → Succeeds (λ x. Describe n outcomes (valued_at s x)) (result_of operator left (value number n v))
