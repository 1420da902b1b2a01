-- The code of a character.
use Rattle.std.specs.Prelude.{ℕ, ℤ, pos, negsuc, ◌+ℤ◌, List, slice_get, unwrap_or}
use Rattle.std.specs.Option.{option_map}
use Rattle.teco_model.specs.State.{Kept}

-- the code of the character at a place of a text, -1 outside
abbrev pub code_at : List ℕ → ℤ → ℤ
code_at text (pos n) = unwrap_or (option_map pos (slice_get text n)) (negsuc 0)
code_at text (negsuc n) = negsuc 0

-- nA answers the code of the character at .+n
abbrev pub character : ℤ → Kept → ℤ
character n kept = code_at kept.text (pos kept.pointer +ℤ n)
