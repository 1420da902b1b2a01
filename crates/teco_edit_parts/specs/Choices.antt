-- Which files are edited.
use Rattle.std.specs.Prelude.{ℕ, List, [], ◌∷◌}
use Rattle.std.specs.Borrow.{Bor}
use Rattle.teco_edit_parts.specs.declared.choosing.ChosenFile.{ChosenFile}

-- the names of files, in order
abbrev pub names_of : List ChosenFile → List (List ℕ)
names_of [] = []
names_of (file ∷ files) = file.name.items ∷ names_of files

-- the names that words say
abbrev pub named_by : List (Bor (List ℕ)) → List (List ℕ)
named_by [] = []
named_by (word ∷ words) = word.now ∷ named_by words
