-- The texts that an expansion goes through.
use Rattle.std.specs.Prelude.{ℕ, List, [], map, Option, Some, None, unwrap_or}
use Rattle.std.specs.Option.{option_copied}
use Rattle.teco_model.specs.Macros.{Library, macro, call_of}
use Rattle.teco_expansion.specs.declared.texts.Texts.{Texts}

-- the library that they are of
abbrev pub library_of : Texts → Library
library_of t = map option_copied t.texts

-- the text of a register, or the command string that calls the entry
abbrev pub text_of : Texts → Option ℕ → List ℕ
text_of t None = call_of t.entry
text_of t (Some r) = unwrap_or (macro (library_of t) r) []
