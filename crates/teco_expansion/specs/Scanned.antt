-- What is kept of a library's texts.
use Rattle.std.specs.Prelude.{◌≡◌, ℕ, List, [], unwrap_or}
use Rattle.teco_model.specs.Element.{blank_end}
use Rattle.teco_scan.specs.Skips.{IsStepOf}
use Rattle.teco_model.specs.Macros.{Library, macro}
use Rattle.teco_expansion.specs.declared.gaps.Gap.{Gap}
use Rattle.teco_expansion.specs.declared.kept.KeptStep.{KeptStep}

-- the text of a register, which is empty where it has none
abbrev pub text_in : Library → ℕ → List ℕ
text_in library register = unwrap_or (macro library register) []

-- what is kept of an element is its step
abbrev pub IsKeptOf : Library → KeptStep → Type 0
IsKeptOf library kept = IsStepOf (text_in library kept.register) kept.step

-- the blanks at a place end there
abbrev pub IsGapOf : Library → Gap → Type 0
IsGapOf library gap = gap.end ≡ blank_end (text_in library gap.register) gap.place
