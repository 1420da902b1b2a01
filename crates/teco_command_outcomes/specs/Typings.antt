-- What is asked of typing.
use Rattle.std.specs.Prelude.{◌≡◌, ℕ, ◌≤◌, ℤ, pos, ◌≤ℤ◌, ◌-ℤ◌, List, [], ◌∷◌, ◌++◌, length, Option, None, Ok}
use Rattle.std.specs.Prelude.{FitsSigned}
use Rattle.std.specs.Int.{w32}
use Rattle.teco_base.specs.Arithmetic.{byte_of}
use Rattle.teco_linear.specs.declared.term.Term.{Term}
use Rattle.teco_linear.specs.Form.{Valuation, value}
use Rattle.teco_model.specs.Checked.{◌>>=◌}
use Rattle.teco_model.specs.Effect.{needed_value}
use Rattle.teco_model.specs.Places.{characters_of, range_span}
use Rattle.teco_model.specs.Typing.{line_characters, line_end, number_text, typing_of}
use Rattle.teco_model.specs.declared.kind.Radix.{Radix}
use Rattle.teco_model.specs.laws.Whole.{IsWhole}
use Rattle.teco_rows.specs.declared.case.Case.{Case}
use Rattle.teco_rows.specs.declared.outcomes.Outcomes.{Outcomes}
use Rattle.teco_rows.specs.Cases.{value_if}
use Rattle.teco_rows.specs.Commands.{commanded}
use Rattle.teco_rows.specs.Foretold.{Begins, Describe}
use Rattle.teco_rows.specs.States.{Point, IsTrueOf}
use Rattle.teco_motion_outcomes.specs.Changes.{IsDone}
use Rattle.teco_command_outcomes.specs.declared.typings.TypedCount.{TypedCount}
use Rattle.teco_command_outcomes.specs.declared.typings.TypedCount.TheVariants.{Exactly, AtMost}

-- there are as many bytes as a count says
abbrev pub AreAsMany : TypedCount → ℕ → Valuation → List ℕ → Type 0
AreAsMany (Exactly form) n v bytes = pos (length bytes) ≡ value form n v
AreAsMany (AtMost form) n v bytes = pos (length bytes) ≤ℤ value form n v

-- one of the cases describes the state behind the typing of as many bytes
abbrev pub Types : TypedCount → Case → Outcomes → Type 0
Types count case all =
    (n : ℕ) (v : Valuation) (s : Point) (bytes : List ℕ)
    → IsTrueOf n v case s → AreAsMany count n v bytes
    → Describe n all (commanded s (typing_of bytes s.kept).kept None)

-- where it begins so, these bytes are typed,
abbrev pub TypesBytes : (ℕ → Valuation → Point → List ℕ) → Case → Outcomes → Type 0
TypesBytes bytes case all =
    (n : ℕ) (v : Valuation) (s : Point)
    → Begins n v case all s → IsDone n all s (Ok (typing_of (bytes n v s) s.kept))

-- the part between the places that two forms are,
abbrev pub TypesPart : List Term → List Term → Case → Outcomes → Type 0
TypesPart first second case all =
    (n : ℕ) (v : Valuation) (s : Point)
    → Begins n v case all s
    → IsDone n all s (range_span s.kept.text (value first n v) (value second n v)
    >>= (λ part. Ok (typing_of (characters_of part s.kept) s.kept)))

-- as many lines as a form says,
abbrev pub TypesLines : List Term → Case → Outcomes → Type 0
TypesLines by case all = TypesBytes (λ n v s. line_characters (value by n v) s.kept) case all

-- and those before the pointer too,
abbrev pub view_characters : ℤ → Point → List ℕ
view_characters x s = line_characters (pos 1 -ℤ x) s.kept ++ line_characters x s.kept

abbrev pub TypesView : List Term → Case → Outcomes → Type 0
TypesView by case all = TypesBytes (λ n v s. view_characters (value by n v) s) case all

-- a text,
abbrev pub TypesText : List ℕ → Case → Outcomes → Type 0
TypesText text case all = TypesBytes (λ n v s. text) case all

-- a byte,
abbrev pub TypesByte : Option (List Term) → Case → Outcomes → Type 0
TypesByte number case all =
    (n : ℕ) (v : Valuation) (s : Point)
    → Begins n v case all s
    → IsDone n all s (needed_value (value_if number n v) >>= (λ x. Ok (typing_of (byte_of x ∷ []) s.kept)))

-- and a number
abbrev pub TypesNumber : Option (List Term) → Radix → ℕ → Case → Outcomes → Type 0
TypesNumber number radix colons case all =
    (n : ℕ) (v : Valuation) (s : Point)
    → Begins n v case all s
    → IsDone n all s (needed_value (value_if number n v)
    >>= (λ x. Ok (typing_of (number_text radix x ++ line_end colons) s.kept)))

-- so many lines have as many characters as a count says,
abbrev pub CountsLines : List Term → Case → TypedCount → Type 0
CountsLines by case count =
    (n : ℕ) (v : Valuation) (s : Point)
    → IsTrueOf n v case s → IsWhole s.kept → AreAsMany count n v (line_characters (value by n v) s.kept)

-- and so have those in view
abbrev pub CountsView : List Term → Case → TypedCount → Type 0
CountsView by case count =
    (n : ℕ) (v : Valuation) (s : Point)
    → IsTrueOf n v case s → IsWhole s.kept → AreAsMany count n v (view_characters (value by n v) s)

-- a number of 32 bits has at most as many characters, with its line end
abbrev pub IsLong : Radix → ℕ → ℕ → Type 0
IsLong radix colons most = (x : ℤ) → FitsSigned w32 x → length (number_text radix x ++ line_end colons) ≤ most
