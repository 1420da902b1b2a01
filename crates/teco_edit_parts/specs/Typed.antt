-- What is printed of what a macro types over a file.
use Rattle.std.specs.Prelude.{ℕ, ◌-◌, List, [], ◌∷◌, ◌++◌, codes, length, take, Bool, true, false, not, ◌==◌}
use Rattle.teco_base.specs.declared.bytes.TheConstants.{LF}
use Rattle.teco_edit_parts.specs.declared.typed.TheConstants.{CODE_LINE}

-- what stands before a byte: the name and a colon, where a line begins
abbrev pub before_byte : Bool → List ℕ → List ℕ
before_byte true name = []
before_byte false name = name ++ codes ":"

-- what ends a line that is begun
abbrev pub end_of : Bool → List ℕ
end_of true = LF ∷ []
end_of false = []

-- Before each line stand the name and a colon, and the last line is ended; whether a line is begun already.
abbrev pub named_lines : Bool → List ℕ → List ℕ → List ℕ
named_lines begun name [] = end_of begun
named_lines begun name (byte ∷ rest) = before_byte begun name ++ byte ∷ named_lines (not (byte == LF)) name rest

-- what was typed, without the line of a code at its end
abbrev pub without_code : List ℕ → Bool → List ℕ
without_code typed true = take (length typed - CODE_LINE) typed
without_code typed false = typed
