-- The body of an iteration: what is chosen for its start, and when a choice stands.
use Rattle.std.specs.Prelude.{ℕ, ℤ, pos, int_le, ◌&&◌, ◌||◌, List, [], ◌∷◌, map, Bool, false, not, Option, Some, None}
use Rattle.std.specs.Prelude.{Result, Ok, Err, if◌then◌else◌}
use Rattle.std.specs.Option.{option_map_or, ok_or}
use Rattle.teco_poly.specs.Polynomial.{Polynomial, mul, sub, one_less, is_at_most}
use Rattle.teco_verifier.specs.declared.values.Interval.{Interval}
use Rattle.teco_verifier.specs.declared.refusal.RefusalReason.{RefusalReason}
use Rattle.teco_verifier.specs.declared.refusal.RefusalReason.TheVariants as refusal
use Rattle.teco_verifier.specs.facts.Attempt.{◌>>=◌}
use Rattle.teco_verifier.specs.facts.Covers.{each_covers, covers_interval, covers_length, covers_pushed, covers_saved}
use Rattle.teco_verifier.specs.facts.Facts.{Position, Facts, nowhere, sum_of}
use Rattle.teco_verifier.specs.facts.Shifts.{saved_after}
use Rattle.teco_verifier.specs.facts.Values.{any_number}

-- What is chosen: how much is held at most at the start of each turn, how long the texts are at most, and whether the
-- iteration is kept: what is ahead, and the falls of those outside, are then those at its <.
pub record Choice : Type 0 where
  pub held : Polynomial
  pub kept : Bool
  pub texts : List Polynomial

-- What a body changes, called texts included, whether its elements are reached or not: the numbers of which
-- registers it writes, and whether it ends all that is saved.
pub record Changes : Type 0 where
  pub written : List Bool
  pub ends : Bool

-- the number of a register that the body writes is unknown
abbrev pub unknown_where : List Bool → List Interval → List Interval
unknown_where (written ∷ others) (i ∷ numbers) =
    (if written then any_number else i) ∷ unknown_where others numbers
unknown_where [] numbers = numbers
unknown_where (written ∷ others) [] = []

-- and it is not saved
abbrev pub unsaved_where : List Bool → List Bool → List Bool
unsaved_where (written ∷ others) (s ∷ saved) = (if written then false else s) ∷ unsaved_where others saved
unsaved_where [] saved = saved
unsaved_where (written ∷ others) [] = []

-- an outer fall is that at the <, or unknown
abbrev pub fall_if : Bool → Option ℤ → Option ℤ
fall_if kept fall = if kept then fall else None

-- own fall 0 and the falls outside
abbrev pub falls_at_start : Bool → List (Option ℤ) → List (Option ℤ)
falls_at_start kept [] = []
falls_at_start kept (own ∷ outer) = Some (pos 0) ∷ map (fall_if kept) outer

abbrev pub position_at_start : Choice → Changes → Position → Position
position_at_start choice changes position = record {
  distances = nowhere;
  falls = falls_at_start choice.kept position.falls;
  ahead = if choice.kept then position.ahead else choice.held;
  saved = saved_after changes.ends (unsaved_where changes.written position.saved);
}

-- The facts at the start of a body, from those that enter it.
abbrev pub body_start : Choice → Changes → Facts → Facts
body_start choice changes entering = record entering {
  position = position_at_start choice changes entering.position;
  held = choice.held;
  numbers = unknown_where changes.written entering.numbers;
  texts = choice.texts;
}

-- A choice is enough to begin with: it holds what the < does.
abbrev pub begins : Choice → Facts → Bool
begins choice entering =
    is_at_most entering.held choice.held && each_covers covers_length choice.texts entering.texts

-- the fall of the innermost iteration is known to be n at least
abbrev pub own_fall : List (Option ℤ) → Option ℤ
own_fall [] = None
own_fall (own ∷ outer) = own

abbrev pub has_own_fall : ℕ → Position → Bool
has_own_fall n position = option_map_or (λ fall. int_le (pos n) fall) (own_fall position.falls) false

-- without a count something falls in each turn
abbrev pub counts : Bool → Position → Bool
counts counted position = counted || has_own_fall 1 position

-- a kept iteration lets no more be ahead from turn to turn
abbrev pub keeps : Bool → Position → Bool
keeps kept position = not kept || has_own_fall 0 position

-- What is held at the start of the last of some turns, if it grows by so much in each: it is H at the <.
abbrev pub held_last : Polynomial → Polynomial → Polynomial → Result Polynomial RefusalReason
held_last at turns growth = do
  grown ← ok_or (mul (one_less turns) growth) refusal.Overflow
  sum_of at grown

abbrev pub growth_of : Polynomial → Polynomial → Result Polynomial RefusalReason
growth_of start end = ok_or (sub end start) refusal.Bound

abbrev pub is_within : Polynomial → Result Polynomial RefusalReason → Bool
is_within most (Ok p) = is_at_most p most
is_within most (Err why) = false

-- at the start of the last turn no more is held than was chosen
abbrev pub has_room : Choice → Polynomial → Facts → Facts → Bool
has_room choice turns entering end =
    is_within choice.held (growth_of choice.held end.held >>= held_last entering.held turns)

-- A turn that ends leaves what the next one may begin with: numbers, texts, pushes and saved registers that those at
-- the start cover.
abbrev pub begins_again : Facts → Facts → Bool
begins_again start end =
    each_covers covers_interval start.numbers end.numbers
    && each_covers covers_length start.texts end.texts
    && each_covers covers_pushed start.pushes end.pushes
    && each_covers covers_saved start.position.saved end.position.saved

abbrev pub returns : Choice → Changes → Bool → Polynomial → Facts → Facts → Bool
returns choice changes counted turns entering end =
    counts counted end.position
    && keeps choice.kept end.position
    && has_room choice turns entering end
    && begins_again (body_start choice changes entering) end

-- A choice stands where it begins and, if the > is reached, returns.
abbrev pub stands : Choice → Changes → Bool → Polynomial → Facts → Option Facts → Bool
stands choice changes counted turns entering None = begins choice entering
stands choice changes counted turns entering (Some end) =
    begins choice entering && returns choice changes counted turns entering end
