-- What is typed.
use Rattle.std.specs.Prelude.{ℕ, ℤ, pos, ◌-ℤ◌, unwrap_or, zero, suc, List, [], ◌∷◌, ◌++◌, Result, Ok}
use Rattle.teco_base.specs.Arithmetic.{byte_of}
use Rattle.teco_base.specs.declared.bytes.TheConstants.{CR, LF}
use Rattle.teco_base.specs.declared.code.Code.{Code}
use Rattle.teco_base.specs.NumberText.{decimal, octal, hex}
use Rattle.teco_model.specs.declared.arguments.Taken.{Taken}
use Rattle.teco_model.specs.declared.kind.Typing.{Typing}
use Rattle.teco_model.specs.declared.kind.Typing.TheVariants.{Part, View, Message, Byte, Number}
use Rattle.teco_model.specs.declared.kind.Radix.{Radix}
use Rattle.teco_model.specs.declared.kind.Radix.TheVariants.{Decimal, Octal, Hexadecimal}
use Rattle.teco_model.specs.Checked.{◌>>=◌}
use Rattle.teco_model.specs.Element.{Element}
use Rattle.teco_model.specs.State.{Kept}
use Rattle.teco_model.specs.Effect.{Effect, no_answer, needed_value}
use Rattle.teco_model.specs.Places.{line_span, part_of, characters_of}

-- more bytes are typed
abbrev pub typing_of : List ℕ → Kept → Effect
typing_of bytes kept = no_answer (record kept { typed = kept.typed ++ bytes })

-- a number in decimal, or its 32 bits in octal or hexadecimal
abbrev pub number_text : Radix → ℤ → List ℕ
number_text Decimal n = decimal n
number_text Octal n = octal n
number_text Hexadecimal n = hex n

-- CR LF, which a colon leaves out
abbrev pub line_end : ℕ → List ℕ
line_end zero = CR ∷ LF ∷ []
line_end (suc colons) = []

-- nT types n lines, m,nT the range
abbrev pub part_typing : Taken → Kept → Result Effect Code
part_typing taken kept = do
  part ← part_of taken kept
  Ok (typing_of (characters_of part kept) kept)

-- the characters of n lines
abbrev pub line_characters : ℤ → Kept → List ℕ
line_characters n kept = characters_of (line_span kept.text kept.pointer n) kept

-- nV types the lines of 1 - n, a whole number, and then those of n
abbrev pub view_typing : ℤ → Kept → Effect
view_typing n kept = typing_of (line_characters (pos 1 -ℤ n) kept ++ line_characters n kept) kept

-- n= types the number, ^T the byte n, and ^A its text
abbrev pub typing : Typing → Element → Taken → Kept → Result Effect Code
typing Part e taken kept = part_typing taken kept
typing View e taken kept = Ok (view_typing (unwrap_or taken.value (pos 1)) kept)
typing Message e taken kept = Ok (typing_of e.text kept)
typing Byte e taken kept = do
  n ← needed_value taken.value
  Ok (typing_of (byte_of n ∷ []) kept)
typing (Number radix) e taken kept = do
  n ← needed_value taken.value
  Ok (typing_of (number_text radix n ++ line_end e.colons) kept)
