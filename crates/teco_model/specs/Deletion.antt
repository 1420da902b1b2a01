-- D deletes characters, and K lines.
use Rattle.std.specs.Prelude.{ℕ, ℤ, pos, negsuc, ◌+◌, ◌-◌, suc, length, Option, Some, Result, Ok, Err, unwrap_or}
use Rattle.std.specs.Prelude.{nat_le, if◌then◌else◌}
use Rattle.teco_base.specs.declared.code.Code.{Code}
use Rattle.teco_base.specs.declared.code.Code.TheVariants as code
use Rattle.teco_base.specs.Text.{text_after_deletion}
use Rattle.teco_model.specs.declared.arguments.Taken.{Taken}
use Rattle.teco_model.specs.declared.kind.Unit.{Unit as Counted}
use Rattle.teco_model.specs.declared.kind.Unit.TheVariants.{Characters, Lines}
use Rattle.teco_model.specs.Checked.{◌>>=◌}
use Rattle.teco_model.specs.State.{Kept}
use Rattle.teco_model.specs.Effect.{Effect, no_answer}
use Rattle.teco_model.specs.Places.{part_named}

-- the characters from a up to b go, and the pointer is where they began
abbrev pub deletion_between : ℕ → ℕ → Kept → Effect
deletion_between a b kept = no_answer (record kept { text = text_after_deletion kept.text a b; pointer = a })

-- nD deletes n characters after the pointer, or -n before it; too many are DTB
abbrev pub character_deletion : ℤ → Kept → Result Effect Code
character_deletion (pos n) kept =
    if nat_le (kept.pointer + n) (length kept.text)
    then Ok (deletion_between kept.pointer (kept.pointer + n) kept) else Err code.Dtb
character_deletion (negsuc n) kept =
    if nat_le (suc n) kept.pointer
    then Ok (deletion_between (kept.pointer - suc n) kept.pointer kept) else Err code.Dtb

-- nK deletes n lines, m,nK the range
abbrev pub part_deletion : Option ℤ → Option ℤ → Kept → Result Effect Code
part_deletion first value kept = do
  part ← part_named first value kept
  Ok (deletion_between part.start part.end kept)

-- m,nD is m,nK
abbrev pub deletion_of : Counted → Option ℤ → Option ℤ → Kept → Result Effect Code
deletion_of Characters (Some m) (Some n) kept = part_deletion (Some m) (Some n) kept
deletion_of Characters first value kept = character_deletion (unwrap_or value (pos 1)) kept
deletion_of Lines first value kept = part_deletion first value kept

abbrev pub deletion : Counted → Taken → Kept → Result Effect Code
deletion unit taken kept = deletion_of unit taken.first taken.value kept
