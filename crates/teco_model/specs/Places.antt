-- Places and parts of the buffer, named by numbers.
use Rattle.std.specs.Prelude.{ℕ, ℤ, pos, negsuc, List, length, min, max, Option, Some, None, Result, Ok, unwrap_or}
use Rattle.std.specs.Prelude.{nat_le, if◌then◌else◌}
use Rattle.std.specs.Option.{ok_or}
use Rattle.teco_base.specs.declared.code.Code.{Code}
use Rattle.teco_base.specs.declared.code.Code.TheVariants as code
use Rattle.teco_base.specs.Lines.{line_place}
use Rattle.teco_base.specs.Text.{range}
use Rattle.teco_model.specs.declared.arguments.Taken.{Taken}
use Rattle.teco_model.specs.declared.pattern.Span.{Span}
use Rattle.teco_model.specs.Checked.{◌>>=◌}
use Rattle.teco_model.specs.State.{Kept}

-- a number names a place from 0 to the length of the text
abbrev pub place_in : List ℕ → ℤ → Option ℕ
place_in text (pos n) = if nat_le n (length text) then Some n else None
place_in text (negsuc n) = None

-- the part between two places, in either order
abbrev pub span_between : ℕ → ℕ → Span
span_between a b = record { start = min a b; end = max a b }

-- A range m,n needs both in the text, else POP; where m is above n they are exchanged.
abbrev pub range_span : List ℕ → ℤ → ℤ → Result Span Code
range_span text m n = do
  from ← ok_or (place_in text m) code.Pop
  to ← ok_or (place_in text n) code.Pop
  Ok (span_between from to)

-- the lines between the pointer and the line place of n
abbrev pub line_span : List ℕ → ℕ → ℤ → Span
line_span text pointer n = span_between pointer (line_place text pointer n)

-- m,n names a range, and n alone n lines
abbrev pub part_named : Option ℤ → Option ℤ → Kept → Result Span Code
part_named (Some m) (Some n) kept = range_span kept.text m n
part_named first value kept = Ok (line_span kept.text kept.pointer (unwrap_or value (pos 1)))

abbrev pub part_of : Taken → Kept → Result Span Code
part_of taken kept = part_named taken.first taken.value kept

-- the characters of a part of the buffer
abbrev pub characters_of : Span → Kept → List ℕ
characters_of part kept = range kept.text part.start part.end

-- the characters between the places that two numbers name
abbrev pub text_between : ℤ → ℤ → Kept → Result (List ℕ) Code
text_between m n kept = do
  part ← range_span kept.text m n
  Ok (characters_of part kept)
