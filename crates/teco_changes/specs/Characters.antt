-- What is known of the characters at the pointer and before it, and what tests tell of them.
use Rattle.std.specs.Prelude.{◌≡◌, ℕ, ℤ, pos, negsuc, zero, suc, ◌+◌, ◌-◌, List, max, min, nat_le, Bool, true, false}
use Rattle.std.specs.Prelude.{IsTrue, Option, Some, None, option_map, slice_get, unwrap_or, if◌then◌else◌, ⊤}
use Rattle.std.specs.Int.{is_in_range}
use Rattle.std.specs.Option.{option_or}
use Rattle.teco_changes.specs.declared.argument.Pending.{Pending}
use Rattle.teco_changes.specs.declared.argument.Pending.TheVariants.{Asked, AskedLess}
use Rattle.teco_changes.specs.declared.argument.Side.{Side}
use Rattle.teco_changes.specs.declared.argument.Side.TheVariants.{At, Before}
use Rattle.teco_changes.specs.declared.argument.Sign.{Sign}
use Rattle.teco_changes.specs.declared.argument.Sign.TheVariants.{Above, Below, Equal, NotAbove, NotBelow}
use Rattle.teco_changes.specs.declared.change.Characters.{Characters}
use Rattle.teco_changes.specs.declared.change.Range.{Range}
use Rattle.teco_model.specs.State.{Kept}
use Rattle.teco_model.specs.declared.kind.Flow.{Flow}
use Rattle.teco_model.specs.declared.kind.Flow.TheVariants as flow
use Rattle.teco_model.specs.declared.kind.Test.{Test}
use Rattle.teco_model.specs.declared.kind.Test.TheVariants as test

-- the character there, if there is one
abbrev pub character_before : List ℕ → ℕ → Option ℕ
character_before text zero = None
character_before text (suc place) = slice_get text place

abbrev pub character_there : Side → Kept → Option ℕ
character_there At kept = slice_get kept.text kept.pointer
character_there Before kept = character_before kept.text kept.pointer

-- its code, -1 where there is none
abbrev pub code_there : Side → Kept → ℤ
code_there side kept = unwrap_or (option_map pos (character_there side kept)) (negsuc 0)

-- a character is of a range, if one is known
abbrev pub IsWithin : Option Range → Option ℕ → Type 0
IsWithin None character = ⊤
IsWithin (Some range) character =
    (b : ℕ) → character ≡ Some b → IsTrue (is_in_range range.first range.last b)

abbrev pub AreWithin : Characters → Kept → Type 0
AreWithin characters kept =
    IsWithin characters.at (character_there At kept) × IsWithin characters.before (character_there Before kept)

abbrev pub unknown : Characters
unknown = record { at = None; before = None }

-- What a test tells of a number, on one of its ways. The first way of a test is that on which it holds.
abbrev pub sign_by : Test → ℕ → Option Sign
sign_by test.Zero zero = Some Equal
sign_by test.NotZero (suc way) = Some Equal
sign_by test.Negative zero = Some Below
sign_by test.Negative (suc way) = Some NotBelow
sign_by test.Positive zero = Some Above
sign_by test.Positive (suc way) = Some NotAbove
sign_by t way = None

-- ; goes on where it is below 0, and :; where it is not
abbrev pub sign_leaving : ℕ → ℕ → Sign
sign_leaving zero zero = Below
sign_leaving (suc colons) (suc way) = Below
sign_leaving colons way = NotBelow

abbrev pub between : ℕ → ℕ → Range
between first last = record { first = first; last = last }

-- the characters that less n are so
abbrev pub range_by : Sign → ℕ → Range
range_by Equal n = between n n
range_by Below n = between 0 (n - 1)
range_by NotBelow n = between n 255
range_by Above n = between (min (n + 1) 255) 255
range_by NotAbove n = between 0 n

-- a number as a character, if it is one
abbrev pub character_of : ℤ → Option ℕ
character_of (pos n) = if nat_le n 255 then Some n else None
character_of (negsuc n) = None

abbrev pub range_less : Sign → ℤ → Option Range
range_less sign n = option_map (range_by sign) (character_of n)

abbrev pub range_less_by : Option Sign → ℤ → Option Range
range_less_by None n = None
range_less_by (Some sign) n = range_less sign n

-- a range that has the characters of a class
abbrev pub class_range : Test → ℕ → Option Range
class_range test.Letter zero = Some (between 65 122)
class_range test.Symbol zero = Some (between 36 122)
class_range test.Digit zero = Some (between 48 57)
class_range test.LetterOrDigit zero = Some (between 48 122)
class_range test.Lower zero = Some (between 97 122)
class_range test.Upper zero = Some (between 65 90)
class_range t way = None

-- what a test tells of a character whose code is asked
abbrev pub range_of_code : Test → ℕ → Option Range
range_of_code t way = option_or (class_range t way) (range_less_by (sign_by t way) (pos 0))

-- what a flow element tells of the character whose code is pending, perhaps less a number
abbrev pub range_asked : Flow → ℕ → ℕ → Pending → Option Range
range_asked (flow.Test t) colons way (Asked side) = range_of_code t way
range_asked (flow.Test t) colons way (AskedLess side n) = range_less_by (sign_by t way) n
range_asked flow.Leave colons way (Asked side) = range_less (sign_leaving colons way) (pos 0)
range_asked flow.Leave colons way (AskedLess side n) = range_less (sign_leaving colons way) n
range_asked f colons way pending = None

-- the characters of both ranges
abbrev pub range_met : Option Range → Range → Option Range
range_met None range = Some range
range_met (Some other) range = Some (between (max other.first range.first) (min other.last range.last))

abbrev pub with_range : Side → Range → Characters → Characters
with_range At range characters = record characters { at = range_met characters.at range }
with_range Before range characters = record characters { before = range_met characters.before range }

abbrev pub narrowed_to : Pending → Range → Characters → Characters
narrowed_to (Asked side) range characters = with_range side range characters
narrowed_to (AskedLess side n) range characters = with_range side range characters
narrowed_to pending range characters = characters

abbrev pub narrowed : Pending → Option Range → Characters → Characters
narrowed pending None characters = characters
narrowed pending (Some range) characters = narrowed_to pending range characters
