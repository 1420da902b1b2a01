-- I and TAB insert a text before the pointer.
use Rattle.std.specs.Prelude.{ℕ, ℤ, ◌+◌, List, [], ◌∷◌, length, Option, Some, None, Result, Ok, Err, nat_le}
use Rattle.std.specs.Prelude.{if◌then◌else◌}
use Rattle.teco_base.specs.Arithmetic.{byte_of}
use Rattle.teco_base.specs.declared.TheConstants.{LIMIT}
use Rattle.teco_base.specs.declared.bytes.TheConstants.{TAB}
use Rattle.teco_base.specs.declared.code.Code.{Code}
use Rattle.teco_base.specs.declared.code.Code.TheVariants as code
use Rattle.teco_base.specs.Text.{text_after_insertion}
use Rattle.teco_model.specs.declared.arguments.Taken.{Taken}
use Rattle.teco_model.specs.declared.kind.Insertion.{Insertion}
use Rattle.teco_model.specs.declared.kind.Insertion.TheVariants.{Text, Tab}
use Rattle.teco_model.specs.Element.{Element}
use Rattle.teco_model.specs.State.{Kept}
use Rattle.teco_model.specs.Effect.{Effect, no_answer}

-- The pointer goes behind the new text, whose length is the last length; a buffer longer than LIMIT is FUL.
abbrev pub insertion_of : List ℕ → Kept → Result Effect Code
insertion_of new kept =
    let text = text_after_insertion kept.text kept.pointer new in
    if nat_le (length text) LIMIT
    then Ok (no_answer (record kept {
      text = text;
      pointer = kept.pointer + length new;
      last_length = length new;
    }))
    else Err code.Ful

-- nI with no text inserts the byte n; with a text, and before TAB, an argument is IIA
abbrev pub insertion_with : Insertion → List ℕ → Option ℤ → Kept → Result Effect Code
insertion_with Text text None kept = insertion_of text kept
insertion_with Text [] (Some n) kept = insertion_of (byte_of n ∷ []) kept
insertion_with Text (c ∷ text) (Some n) kept = Err code.Iia
insertion_with Tab text None kept = insertion_of (TAB ∷ text) kept
insertion_with Tab text (Some n) kept = Err code.Iia

abbrev pub insertion : Insertion → Element → Taken → Kept → Result Effect Code
insertion i e taken kept = insertion_with i e.text taken.value kept
