-- Lines of a text: each ends with LF, VT or FF.
use Rattle.std.specs.Prelude.{ℕ, zero, suc, ◌+◌, ℤ, pos, negsuc, List, [], ◌∷◌, length, reverse, filter}
use Rattle.std.specs.Prelude.{slice_index_or, nat_lt, nat_le, if◌then◌else◌}
use Rattle.teco_base.specs.Bytes.{is_line_end}

-- the places after the line ends of a text whose first character is at a place
abbrev pub line_places_from : ℕ → List ℕ → List ℕ
line_places_from place [] = []
line_places_from place (b ∷ text) =
    if is_line_end b then (place + 1) ∷ line_places_from (place + 1) text
    else line_places_from (place + 1) text

-- all places after a line end
abbrev pub line_places : List ℕ → List ℕ
line_places text = line_places_from 0 text

-- those after a line end at or after the pointer, and those after one before it, counted backwards
abbrev pub places_ahead : List ℕ → ℕ → List ℕ
places_ahead text pointer = filter (λ place. nat_lt pointer place) (line_places text)

abbrev pub places_back : List ℕ → ℕ → List ℕ
places_back text pointer = reverse (filter (λ place. nat_le place pointer) (line_places text))

-- The line place of n: for n at least 1 the nth place ahead, or the end of the text where there are fewer; for n at
-- most 0 the (1 - n)th place back, or 0.
abbrev pub line_place : List ℕ → ℕ → ℤ → ℕ
line_place text pointer (pos (suc n)) = slice_index_or (places_ahead text pointer) n (length text)
line_place text pointer (pos zero) = slice_index_or (places_back text pointer) 0 0
line_place text pointer (negsuc n) = slice_index_or (places_back text pointer) (suc n) 0
