-- The law that some codes are never a step's, nor a run's.
use Rattle.std.specs.Prelude.{◌≡◌, ⊤}
use Rattle.teco_base.specs.declared.code.Code.{Code}
use Rattle.teco_base.specs.declared.code.Code.TheVariants as code
use Rattle.teco_model.specs.State.{World, State, Fail}
use Rattle.teco_model.specs.Step.{step}
use Rattle.teco_model.specs.declared.stop.Stop.{Stop}
use Rattle.teco_model.specs.declared.stop.Stop.TheVariants as stop

-- Is it a code that a step may be? LIM, MEM, FNF, INP and OUT are typed for stops that are no command's fault.
abbrev pub IsOfStep : Code → Type 0
IsOfStep code.Lim = ⊥
IsOfStep code.Mem = ⊥
IsOfStep code.Fnf = ⊥
IsOfStep code.Inp = ⊥
IsOfStep code.Out = ⊥
IsOfStep c = ⊤

-- The code that a step comes to is such a one.
abbrev pub StepsTellTheirCodes : Type 0
StepsTellTheirCodes = (s : State) (c : Code) (new : World) → step s ≡ Fail c new → IsOfStep c

-- if a run stops with a code, it is such a one
abbrev pub TellsStepCode : Stop → Type 0
TellsStepCode (stop.Error c) = IsOfStep c
TellsStepCode other = ⊤
