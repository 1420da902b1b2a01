-- Where macros lie that are called by name.
use Rattle.std.specs.Prelude.{ℕ, List, [], ◌∷◌, ◌++◌, map, codes, Bool, false, ◌&&◌, ◌||◌, ◌==◌, Option, Some, None}
use Rattle.std.specs.List.{list_all}
use Rattle.std.specs.Borrow.{Bor}
use Rattle.teco_base.specs.Bytes.{is_letter, is_letter_or_digit}

-- names are of letters, digits, hyphens and underscores
abbrev pub is_of_names : ℕ → Bool
is_of_names b = is_letter_or_digit b || b == 45 || b == 95

-- a word is a name if it begins with a letter and has no other bytes; any other is a file
abbrev pub is_name : List ℕ → Bool
is_name [] = false
is_name (b ∷ word) = is_letter b && list_all is_of_names word

-- the file of a name in a folder
abbrev pub file_in : List ℕ → List ℕ → List ℕ
file_in name folder = folder ++ codes "/" ++ name ++ codes ".tes"

-- a folder that may be there, as a list
abbrev pub folder_of : Option (Bor (List ℕ)) → List (List ℕ)
folder_of (Some folder) = folder.now ∷ []
folder_of None = []

-- the folders in which a macro is looked for: the one that the program runs in, the user's, and the one that is
-- installed with the program
abbrev pub folders : Option (Bor (List ℕ)) → Option (Bor (List ℕ)) → List (List ℕ)
folders own installed = codes "." ∷ folder_of own ++ folder_of installed

-- the files that a name may stand for; the first of them that is there is taken
abbrev pub places : List ℕ → Option (Bor (List ℕ)) → Option (Bor (List ℕ)) → List (List ℕ)
places name own installed = map (file_in name) (folders own installed)
