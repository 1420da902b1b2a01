-- C, R, J and L move the pointer.
use Rattle.std.specs.Prelude.{ℕ, zero, suc, ℤ, pos, negsuc, ◌+ℤ◌, ◌-ℤ◌, Option, Some, None, Result, Ok, Err, unwrap_or}
use Rattle.teco_base.specs.declared.code.Code.{Code}
use Rattle.teco_base.specs.declared.code.Code.TheVariants as code
use Rattle.teco_base.specs.Lines.{line_place}
use Rattle.teco_model.specs.declared.arguments.Taken.{Taken}
use Rattle.teco_model.specs.declared.kind.Motion.{Motion}
use Rattle.teco_model.specs.declared.kind.Motion.TheVariants.{Forward, Backward, To, Lines}
use Rattle.teco_model.specs.Element.{Element}
use Rattle.teco_model.specs.State.{Kept}
use Rattle.teco_model.specs.Effect.{Effect, no_answer, with_answer}
use Rattle.teco_model.specs.Places.{place_in}

-- the place that the argument names, as a whole number: nC and nR go n on and n back, and nJ goes to n
abbrev pub target : Motion → ℕ → Option ℤ → ℤ
target Forward pointer n = pos pointer +ℤ unwrap_or n (pos 1)
target Backward pointer n = pos pointer -ℤ unwrap_or n (pos 1)
target To pointer n = unwrap_or n (pos 0)
target Lines pointer n = pos pointer

-- Off the buffer it is POP. With a colon it answers -1, or 0 with nothing moved.
abbrev pub motion_to : ℕ → Option ℕ → Kept → Result Effect Code
motion_to zero None kept = Err code.Pop
motion_to zero (Some place) kept = Ok (no_answer (record kept { pointer = place }))
motion_to (suc n) None kept = Ok (with_answer (pos 0) kept)
motion_to (suc n) (Some place) kept = Ok (with_answer (negsuc 0) (record kept { pointer = place }))

-- nL goes to the line place of n
abbrev pub line_motion : ℤ → Kept → Effect
line_motion n kept = no_answer (record kept { pointer = line_place kept.text kept.pointer n })

abbrev pub motion : Motion → Element → Taken → Kept → Result Effect Code
motion Lines e taken kept = Ok (line_motion (unwrap_or taken.value (pos 1)) kept)
motion m e taken kept = motion_to e.colons (place_in kept.text (target m kept.pointer taken.value)) kept
