-- S and FS look for a text in the buffer.
use Rattle.std.specs.Prelude.{ℕ, ℤ, suc, pos, negsuc, ◌+◌, ◌-◌, List, [], ◌∷◌, length, not, Option, Some, None}
use Rattle.std.specs.Prelude.{Result, Ok, Err, nat_le, if◌then◌else◌, unwrap_or}
use Rattle.teco_base.specs.declared.TheConstants.{LIMIT}
use Rattle.teco_base.specs.declared.code.Code.{Code}
use Rattle.teco_base.specs.declared.code.Code.TheVariants as code
use Rattle.teco_base.specs.Text.{text_after_replacement}
use Rattle.teco_model.specs.declared.arguments.Taken.{Taken}
use Rattle.teco_model.specs.declared.kind.Search.{Search}
use Rattle.teco_model.specs.declared.kind.Search.TheVariants.{Replace, ReplaceInPages}
use Rattle.teco_model.specs.declared.pattern.Span.{Span}
use Rattle.teco_model.specs.Checked.{◌>>=◌}
use Rattle.teco_model.specs.Condition.{is_zero}
use Rattle.teco_model.specs.Element.{Element}
use Rattle.teco_model.specs.Match.{here, forward, backward}
use Rattle.teco_model.specs.Pattern.{Pattern, pattern}
use Rattle.teco_model.specs.State.{Kept}

-- What a search comes to: it found what it looks for, or missed it; and what is kept then. A miss leaves the pointer.
pub data Finding : Type 0 where
  Found : Kept → Finding
  Missed : Kept → Finding

-- how many matches are sought, and in which direction: one where nothing is said; a first value, and 0, are ARG
abbrev pub nonzero : ℤ → Result ℤ Code
nonzero n = if is_zero n then Err code.Arg else Ok n

abbrev pub count_of : Option ℤ → Option ℤ → Result ℤ Code
count_of None value = nonzero (unwrap_or value (pos 1))
count_of (Some m) value = Err code.Arg

-- an empty search text means the last one
abbrev pub text_or : List ℕ → List ℕ → List ℕ
text_or [] last = last
text_or (c ∷ text) last = c ∷ text

abbrev pub search_text_of : List ℕ → Kept → List ℕ
search_text_of text kept = text_or text kept.search_text

-- the text says its pattern with the registers and the search mode of now
abbrev pub pattern_of : List ℕ → Kept → Result Pattern Code
pattern_of text kept = pattern kept.registers (not (is_zero kept.mode)) text

-- With two colons the match is at the pointer; else it is the nth forward, or for n negative the nth backward.
abbrev pub match_in_direction : Pattern → List ℕ → ℕ → ℤ → Option Span
match_in_direction pattern text pointer (pos n) = forward pattern text pointer n
match_in_direction pattern text pointer (negsuc n) = backward pattern text pointer (suc n)

abbrev pub match_of : Pattern → ℕ → ℤ → List ℕ → ℕ → Option Span
match_of pattern (suc (suc colons)) n text pointer = here pattern text pointer
match_of pattern colons n text pointer = match_in_direction pattern text pointer n

-- S goes to the end of the match, whose length is the last length.
abbrev pub kept_at : Span → Kept → Kept
kept_at span kept = record kept { pointer = span.end; last_length = span.end - span.start }

-- FS puts its second text in the place of the match, and goes behind it; a buffer longer than LIMIT is FUL.
abbrev pub replacement : Span → List ℕ → Kept → Result Kept Code
replacement span new kept =
    let text = text_after_replacement kept.text span.start span.end new in
    if nat_le (length text) LIMIT
    then Ok (record kept {
      text = text;
      pointer = span.start + length new;
      last_length = length new;
    })
    else Err code.Ful

-- what is kept where it was found
abbrev pub kept_after : Search → Element → Span → Kept → Result Kept Code
kept_after Replace e span kept = replacement span e.second kept
kept_after ReplaceInPages e span kept = replacement span e.second kept
kept_after s e span kept = Ok (kept_at span kept)

abbrev pub finding_of : Search → Element → Option Span → Kept → Result Finding Code
finding_of s e None kept = Ok (Missed kept)
finding_of s e (Some span) kept = do
  found ← kept_after s e span kept
  Ok (Found found)

-- A search text that says a pattern becomes the last search text, whether it is found or missed.
abbrev pub search : Search → Element → Taken → Kept → Result Finding Code
search s e taken kept = do
  n ← count_of taken.first taken.value
  pattern ← pattern_of (search_text_of e.text kept) kept
  finding_of s e (match_of pattern e.colons n kept.text kept.pointer)
      (record kept { search_text = search_text_of e.text kept })
