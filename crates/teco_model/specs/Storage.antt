-- Registers: numbers, texts and the push-down list.
use Rattle.std.specs.Prelude.{ℕ, ℤ, zero, suc, pos, List, ◌++◌, length, Option, Some, None, Result, Ok, Err}
use Rattle.std.specs.Prelude.{unwrap_or, nat_le, if◌then◌else◌}
use Rattle.std.specs.Option.{ok_or}
use Rattle.teco_base.specs.declared.TheConstants.{LIMIT}
use Rattle.teco_base.specs.declared.code.Code.{Code}
use Rattle.teco_base.specs.declared.code.Code.TheVariants as code
use Rattle.teco_base.specs.Arithmetic.{add}
use Rattle.teco_model.specs.declared.arguments.Taken.{Taken}
use Rattle.teco_model.specs.declared.kind.Stack.{Stack}
use Rattle.teco_model.specs.declared.kind.Stack.TheVariants.{Push, Pop}
use Rattle.teco_model.specs.declared.kind.Storage.{Storage}
use Rattle.teco_model.specs.declared.kind.Storage.TheVariants.{SetNumber, Add, Copy, SetText, Get}
use Rattle.teco_model.specs.Checked.{◌>>=◌}
use Rattle.teco_model.specs.Effect.{Effect, no_answer, with_answer, needed_value}
use Rattle.teco_model.specs.Element.{Element}
use Rattle.teco_model.specs.Insertion.{insertion_of}
use Rattle.teco_model.specs.Places.{part_of, characters_of}
use Rattle.teco_model.specs.Registers.{pair_of, with_number, with_text, registers_after_push, registers_after_pop}
use Rattle.teco_model.specs.State.{Kept}
use Rattle.teco_model.specs.Typing.{typing_of}

-- the number and the text of a register
abbrev pub number_in : ℕ → Kept → ℤ
number_in r kept = (pair_of r kept.registers).number

abbrev pub text_in : ℕ → Kept → List ℕ
text_in r kept = (pair_of r kept.registers).text

-- nUq stores the number; n%q adds n and answers the sum
abbrev pub kept_with_number : ℕ → ℤ → Kept → Kept
kept_with_number r n kept = record kept { registers = with_number r n kept.registers }

abbrev pub addition : ℕ → ℤ → Kept → Effect
addition r n kept = let sum = add (number_in r kept) n in with_answer sum (kept_with_number r sum kept)

-- a text is stored, or with a colon appended; one longer than LIMIT is FUL
abbrev pub text_setting : ℕ → List ℕ → Kept → Result Effect Code
text_setting r text kept =
    if nat_le (length text) LIMIT
    then Ok (no_answer (record kept { registers = with_text r text kept.registers })) else Err code.Ful

abbrev pub text_storage : ℕ → ℕ → List ℕ → Kept → Result Effect Code
text_storage zero r text kept = text_setting r text kept
text_storage (suc colons) r text kept = text_setting r (text_in r kept ++ text) kept

-- nXq copies lines or a range of the buffer into the text
abbrev pub copy : ℕ → ℕ → Taken → Kept → Result Effect Code
copy colons r taken kept = do
  part ← part_of taken kept
  text_storage colons r (characters_of part kept) kept

-- ^Uq stores its text; an argument is ARG
abbrev pub own_text_storage : ℕ → ℕ → List ℕ → Option ℤ → Kept → Result Effect Code
own_text_storage colons r text None kept = text_storage colons r text kept
own_text_storage colons r text (Some n) kept = Err code.Arg

-- Gq inserts the text, or with a colon types it
abbrev pub retrieval : ℕ → ℕ → Kept → Result Effect Code
retrieval zero r kept = insertion_of (text_in r kept) kept
retrieval (suc colons) r kept = Ok (typing_of (text_in r kept) kept)

abbrev pub storage : Storage → Element → Taken → Kept → Result Effect Code
storage (SetNumber r) e taken kept = do
  n ← needed_value taken.value
  Ok (no_answer (kept_with_number r n kept))
storage (Add r) e taken kept = Ok (addition r (unwrap_or taken.value (pos 1)) kept)
storage (Copy r) e taken kept = copy e.colons r taken kept
storage (SetText r) e taken kept = own_text_storage e.colons r e.text taken.value kept
storage (Get r) e taken kept = retrieval e.colons r kept

-- [q puts a copy of the pair on the list
abbrev pub push : ℕ → Kept → Kept
push r kept = record kept { registers = registers_after_push r kept.registers }

-- ]q takes the newest pair off the list into q; on an empty list it is PES
abbrev pub pop : ℕ → Kept → Result Kept Code
pop r kept = do
  registers ← ok_or (registers_after_pop r kept.registers) code.Pes
  Ok (record kept { registers = registers })

abbrev pub stack : Stack → Kept → Result Kept Code
stack (Push r) kept = Ok (push r kept)
stack (Pop r) kept = pop r kept
