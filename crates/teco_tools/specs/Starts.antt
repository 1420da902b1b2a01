-- What a machine has before a run.
use Rattle.std.specs.Prelude.{ℕ, ◌≡◌, ◌-◌, ◌^◌, List, [], ◌∷◌, Option, Some, None, replicate, set}
use Rattle.teco_base.specs.declared.TheConstants.{REGISTERS}
use Rattle.teco_console.specs.Settings.{GivenText}
use Rattle.teco_model.specs.Registers.{with_texts}
use Rattle.teco_model.specs.Run.{Stops}
use Rattle.teco_model.specs.State.{Kept, World, start}
use Rattle.teco_model.specs.declared.stop.Stop.{Stop}
use Rattle.teco_options.specs.declared.running.LetterCase.{LetterCase}
use Rattle.teco_options.specs.declared.running.LetterCase.TheVariants.{Exact, Any}
use Rattle.teco_tools.specs.declared.setting.Start.{Start}

-- nothing but what a new machine has
pub record IsBare (start : Start) : Type 0 where
  pub settings : start.settings.now ≡ []
  pub case : start.case ≡ None

-- a text for one register
abbrev pub only : GivenText → List (Option (List ℕ))
only setting = set (replicate REGISTERS None) setting.register (Some setting.text)

-- registers are given their texts, one after another
abbrev pub with_settings : List GivenText → Kept → Kept
with_settings [] kept = kept
with_settings (setting ∷ settings) kept =
    with_settings settings (record kept { registers = with_texts (only setting) kept.registers })

-- the command string that makes searches treat case so: 1^X or 0^X
abbrev pub case_command : LetterCase → List ℕ
case_command Exact = 49 ∷ 94 ∷ 88 ∷ []
case_command Any = 48 ∷ 94 ∷ 88 ∷ []

-- it was run, if case is to be treated in some way
abbrev pub TreatsCase : Option LetterCase → World → World → Type 0
TreatsCase None old new = new ≡ old
TreatsCase (Some case) old new = (stop : Stop) × Stops (start (case_command case) old) (2 ^ 64 - 1) stop new

-- registers have their texts, and then searches treat case as is asked
abbrev pub Prepares : Start → World → World → Type 0
Prepares begun old new =
    TreatsCase begun.case (record old { kept = with_settings begun.settings.now old.kept }) new
