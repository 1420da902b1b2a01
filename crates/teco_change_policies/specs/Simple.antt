-- Search texts of characters that are looked for and of ^ES, a run of blanks.
use Rattle.std.specs.Prelude.{◌≡◌, ℕ, List, [], ◌∷◌, Bool, true, false, ◌==◌, ◌||◌, if◌then◌else◌, Option, Some, None}
use Rattle.std.specs.Option.{option_map_or}
use Rattle.teco_change_policies.specs.declared.simple.Mark.{Mark}
use Rattle.teco_change_policies.specs.declared.simple.Mark.TheVariants.{Caret, Extended, Nothing}
use Rattle.teco_changes.specs.Plain.{is_sign}

-- What of ^ES has been read behind a byte, which may be a caret and an E; none where a byte begins anything else.
abbrev pub behind : Mark → ℕ → Option Mark
behind Nothing b =
    if b == 94 then Some Caret
    else if b == 5 then Some Extended
    else if is_sign b then None
    else Some Nothing
behind Caret b = if b == 69 || b == 101 then Some Extended else None
behind Extended b = if b == 83 || b == 115 then Some Nothing else None

abbrev pub is_nothing : Mark → Bool
is_nothing Nothing = true
is_nothing m = false

-- a text can be read on from there
abbrev pub reads_on : Mark → List ℕ → Bool
reads_on m [] = is_nothing m
reads_on m (b ∷ text) = option_map_or (λ next. reads_on next text) (behind m b) false

abbrev pub IsSimple : List ℕ → Type 0
IsSimple text = reads_on Nothing text ≡ true
