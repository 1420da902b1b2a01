-- The measures of a state, and where their forms stand in a case.
use Rattle.std.specs.Prelude.{ℕ, ◌+◌, ◌*◌}
use Rattle.teco_rows.specs.declared.measure.Single.{Single}
use Rattle.teco_rows.specs.declared.measure.Single.TheVariants.{Steps, Pointer, Size, Held, LineEnd, LineStart}
use Rattle.teco_rows.specs.declared.measure.Single.TheVariants.{LastLength, CodeHere, CodeBefore, Typed, EntryHeld}
use Rattle.teco_rows.specs.declared.measure.Family.{Family}
use Rattle.teco_rows.specs.declared.measure.Family.TheVariants.{Number, Length, Turns, PushedNumber, PushedLength}
use Rattle.teco_rows.specs.declared.measure.Family.TheVariants.{First, Value}
use Rattle.teco_rows.specs.declared.measure.Measure.{Measure}
use Rattle.teco_rows.specs.declared.measure.Measure.TheVariants.{One, Each}

-- the measures that a state has once, in their order
abbrev pub single_code : Single → ℕ
single_code Steps = 0
single_code Pointer = 1
single_code Size = 2
single_code Held = 3
single_code LineEnd = 4
single_code LineStart = 5
single_code LastLength = 6
single_code CodeHere = 7
single_code CodeBefore = 8
single_code Typed = 9
single_code EntryHeld = 10

-- the families, in their order
abbrev pub family_code : Family → ℕ
family_code Number = 0
family_code Length = 1
family_code Turns = 2
family_code PushedNumber = 3
family_code PushedLength = 4
family_code First = 5
family_code Value = 6

-- a case has first the forms of what a state has once, and then one of each family in turn
abbrev pub place : Measure → ℕ
place (One single) = single_code single
place (Each family index) = 11 + 7 * index + family_code family
