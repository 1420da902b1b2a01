-- Files that words name.
use Rattle.std.proofs.Common.{◌≡◌, ◌+◌, ◌<◌, ◌≤◌, ap, ℕ, List, [], ◌∷◌, ◌++◌, length, drop, get_or, refl}
use Rattle.std.specs.Borrow.{Bor}
use Rattle.std.proofs.lemmas.List.{drop_more, drop_all}
use Rattle.teco_edit_parts.specs.Choices.{named_by, names_of}
use Rattle.teco_edit_parts.specs.declared.choosing.ChosenFile.{ChosenFile}

-- one file more
pub names_of_more : (files : List ChosenFile) (file : ChosenFile)
    → names_of (files ++ file ∷ []) ≡ names_of files ++ file.name.items ∷ []
names_of_more [] file = refl
names_of_more (first ∷ files) file = ap (λ names. first.name.items ∷ names) (names_of_more files file)

-- the names behind others
pub named_more : (words : List (Bor (List ℕ))) (word : Bor (List ℕ)) (i : ℕ) → i < length words
    → named_by (drop i words) ≡ (get_or words i word).now ∷ named_by (drop (i + 1) words)
named_more words word i within = ap named_by (drop_more words i word within)

pub named_all : (words : List (Bor (List ℕ))) (i : ℕ) → length words ≤ i → named_by (drop i words) ≡ []
named_all words i beyond = ap named_by (drop_all i words beyond)
