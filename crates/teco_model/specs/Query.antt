-- Q, ^X and \ give a value; where one stands, they take it.
use Rattle.std.specs.Prelude.{ℕ, ℤ, zero, suc, pos, ◌+◌, length, Result, Ok}
use Rattle.teco_base.specs.declared.code.Code.{Code}
use Rattle.teco_base.specs.NumberText.{decimal}
use Rattle.teco_model.specs.declared.kind.Query.{Query}
use Rattle.teco_model.specs.declared.kind.Query.TheVariants.{Number, Mode, Conversion}
use Rattle.teco_model.specs.Character.{code_at}
use Rattle.teco_model.specs.Conversion.{number_here}
use Rattle.teco_model.specs.Effect.{Effect, no_answer, with_answer}
use Rattle.teco_model.specs.Insertion.{insertion_of}
use Rattle.teco_model.specs.State.{Kept}
use Rattle.teco_model.specs.Storage.{number_in, text_in}

-- what is kept, and the value that is given
pub record Reply : Type 0 where
  pub kept : Kept
  pub value : ℤ

abbrev pub reply : Kept → ℤ → Reply
reply kept value = record { kept = kept; value = value }

-- Without a value Qq gives the number and :Qq the length of the text, ^X gives the search mode, and \ the number at the
-- pointer, which goes past it.
abbrev pub query : Query → ℕ → Kept → Reply
query (Number r) zero kept = reply kept (number_in r kept)
query (Number r) (suc colons) kept = reply kept (pos (length (text_in r kept)))
query Mode colons kept = reply kept kept.mode
query Conversion colons kept =
    let read = number_here kept in
    reply (record kept { pointer = kept.pointer + read.len }) read.number

-- With a value nQq answers the code of a character of the text, n^X sets the search mode, and n\ inserts n in decimal.
abbrev pub query_with : Query → ℤ → Kept → Result Effect Code
query_with (Number r) n kept = Ok (with_answer (code_at (text_in r kept) n) kept)
query_with Mode n kept = Ok (no_answer (record kept { mode = n }))
query_with Conversion n kept = insertion_of (decimal n) kept
