-- Where a pattern is found.
use Rattle.std.specs.Prelude.{ℕ, zero, suc, ◌+◌, ◌-◌, List, [], ◌∷◌, length, drop, Option, Some, None, option_map}
use Rattle.std.specs.Prelude.{option_and_then, Bool, true, not, ◌==◌, ◌||◌, if◌then◌else◌}
use Rattle.std.specs.Option.{option_or}
use Rattle.teco_base.specs.Bytes.{to_upper, is_letter, is_digit, is_letter_or_digit, is_lower, is_upper, is_line_end}
use Rattle.teco_model.specs.Pattern.{Pattern}
use Rattle.teco_model.specs.declared.pattern.Class.{Class}
use Rattle.teco_model.specs.declared.pattern.Class.TheVariants as class
use Rattle.teco_model.specs.declared.pattern.Item.{Item}
use Rattle.teco_model.specs.declared.pattern.Item.TheVariants as item
use Rattle.teco_model.specs.declared.pattern.Span.{Span}

-- is a character of the class
abbrev pub is_in : Class → ℕ → Bool
is_in (class.Literal b) c = c == b
is_in (class.EitherCase b) c = to_upper c == b
is_in class.Any c = true
is_in class.Separator c = not (is_letter_or_digit c)
is_in class.Letter c = is_letter c
is_in class.Digit c = is_digit c
is_in class.LetterOrDigit c = is_letter_or_digit c
is_in class.Lower c = is_lower c
is_in class.Upper c = is_upper c
is_in class.LineEnd c = is_line_end c

-- what a run of blanks is of
abbrev pub is_space_or_tab : ℕ → Bool
is_space_or_tab c = c == 32 || c == 9

-- Each of what follows is matched at the front of a text, and gives the text behind it.

-- a character that passes
abbrev pub one_rest : (ℕ → Bool) → List ℕ → Option (List ℕ)
one_rest passes [] = None
one_rest passes (c ∷ rest) = if passes c then Some rest else None

-- all characters that pass, up to the first that does not
abbrev pub run_rest : (ℕ → Bool) → List ℕ → List ℕ
run_rest passes [] = []
run_rest passes (c ∷ rest) = if passes c then run_rest passes rest else c ∷ rest

-- an element; a run of blanks has one at least
abbrev pub item_rest : Item → List ℕ → Option (List ℕ)
item_rest (item.Is c) text = one_rest (is_in c) text
item_rest (item.IsNot c) text = one_rest (λ b. not (is_in c b)) text
item_rest item.Blanks text = option_map (run_rest is_space_or_tab) (one_rest is_space_or_tab text)

-- elements, each where the one before it ended
abbrev pub match_rest : List Item → List ℕ → Option (List ℕ)
match_rest [] text = Some text
match_rest (i ∷ items) text = option_and_then (match_rest items) (item_rest i text)

-- the match that starts at a place, if there is one; a pattern of no elements is never found
unfoldable pub here : Pattern → List ℕ → ℕ → Option Span
here [] text at = None
here (i ∷ items) text at =
    option_map (λ rest. record { start = at; end = length text - length rest })
    (match_rest (i ∷ items) (drop at text))

-- the first match that starts at one of so many places, from a place on
abbrev pub first_among : Pattern → List ℕ → ℕ → ℕ → Option Span
first_among pattern text at zero = None
first_among pattern text at (suc places) =
    option_or (here pattern text at) (first_among pattern text (at + 1) places)

-- the first match that starts at a place or behind it
abbrev pub first_from : Pattern → List ℕ → ℕ → Option Span
first_from pattern text at = first_among pattern text at (length text - at)

-- the last match that starts before a place; it may reach past the place
abbrev pub last_before : Pattern → List ℕ → ℕ → Option Span
last_before pattern text zero = None
last_before pattern text (suc at) = option_or (here pattern text at) (last_before pattern text at)

-- the nth that a search finds from a place on: each next one is sought from where the last leads to
abbrev pub nth_match : (ℕ → Option Span) → (Span → ℕ) → ℕ → ℕ → Option Span
nth_match search onward at zero = None
nth_match search onward at (suc zero) = search at
nth_match search onward at (suc (suc n)) =
    option_and_then (λ last. nth_match search onward (onward last) (suc n)) (search at)

-- the nth match from a place on: each next one starts at the end of the last or behind it
abbrev pub forward : Pattern → List ℕ → ℕ → ℕ → Option Span
forward pattern text at n = nth_match (first_from pattern text) (λ last. last.end) at n

-- the nth match back from a place: each next one starts before the start of the last
abbrev pub backward : Pattern → List ℕ → ℕ → ℕ → Option Span
backward pattern text at n = nth_match (last_before pattern text) (λ last. last.start) at n
