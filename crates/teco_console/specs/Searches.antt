-- Search texts in the places of a library that are marked for them.
use Rattle.std.specs.Prelude.{ℕ, zero, suc, List, [], ◌∷◌, ◌++◌, Bool, false, ◌&&◌, ◌==◌, if◌then◌else◌}
use Rattle.teco_base.specs.Register.{register_name}
use Rattle.teco_console.specs.Settings.{GivenText}

-- a text begins with the mark for the search text of a register: ^EQ and the register's name
abbrev pub begins_with_mark : ℕ → List ℕ → Bool
begins_with_mark register (a ∷ b ∷ c ∷ name ∷ text) = a == 94 && b == 69 && c == 81 && name == register_name register
begins_with_mark register text = false

-- A search text stands in the place of each mark: so many bytes of the last one go still.
abbrev pub filling : ℕ → List ℕ → ℕ → List ℕ → List ℕ
filling register search skipped [] = []
filling register search (suc skipped) (c ∷ text) = filling register search skipped text
filling register search zero (c ∷ text) =
    if begins_with_mark register (c ∷ text) then search ++ filling register search 3 text
    else c ∷ filling register search zero text

-- and so does each of several, one after another
abbrev pub filled : List GivenText → List ℕ → List ℕ
filled [] text = text
filled (given ∷ searches) text = filled searches (filling given.register given.text 0 text)
