-- How what a command did is seen, and what may stop it.
use Rattle.std.specs.Prelude.{ℤ, Bool, IsTrue, Option, IsOk}
use Rattle.teco_base.specs.Does.{Cause, Refused, Memory, May, memory_where}
use Rattle.teco_base.specs.declared.code.Code.{Code}
use Rattle.teco_model.specs.Effect.{Effect}
use Rattle.teco_model.specs.State.{Kept}
use Rattle.teco_editor.specs.declared.stuck.Stuck.{Stuck}
use Rattle.teco_editor.specs.declared.stuck.Stuck.TheVariants as stuck

abbrev pub stuck_cause : Stuck → Cause ⊥
stuck_cause (stuck.Code c) = Refused c
stuck_cause stuck.Memory = Memory

-- what a command left and answered
abbrev pub effect_seen : Kept → Option ℤ → Effect
effect_seen new answer = record { kept = new; answer = answer }

-- a command that grows may want memory, where the definition has no code
abbrev pub growing_if : {Y : Type 0} → Bool → May Kept Y ⊥
growing_if grows = memory_where (λ defined. IsTrue grows × IsOk defined)
