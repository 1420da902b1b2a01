-- Words of the command line that give texts to parameters.
use Rattle.std.specs.Prelude.{◌≡◌, ℕ, List, ◌∷◌, ◌++◌, IsTrue}
use Rattle.std.specs.List.{list_all}
use Rattle.teco_parameters.specs.Places.{is_of_names}
use Rattle.teco_parameters.specs.declared.binding.Given.{Given}

-- a word is a key, of the bytes that names have, an equals sign and a text
pub record IsGiven (word : List ℕ) (given : Given) : Type 0 where
  pub written : word ≡ given.key.now ++ 61 ∷ given.text.now
  pub key : IsTrue (list_all is_of_names given.key.now)

-- no key and no equals sign begin a word
abbrev pub GivesNone : List ℕ → Type 0
GivesNone word = (key text : List ℕ) → word ≡ key ++ 61 ∷ text → IsTrue (list_all is_of_names key) → ⊥
