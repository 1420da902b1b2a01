-- What comes of the edits of files.
use Rattle.std.specs.Prelude.{ℕ, Bool, true, false, nat_lt, if◌then◌else◌}
use Rattle.teco_console.specs.declared.outcome.Outcome.{Outcome}
use Rattle.teco_console.specs.declared.outcome.Outcome.TheVariants as runs
use Rattle.teco_edits.specs.declared.outcome.EditOutcome.{EditOutcome}
use Rattle.teco_edits.specs.declared.outcome.EditOutcome.TheVariants.{Done, WouldChange, Refused, Failed}

-- what the program ends with; 2 is for words that can't be obeyed
abbrev pub status : EditOutcome → ℕ
status Done = 0
status WouldChange = 1
status Refused = 3
status Failed = 4

-- of two, the one of the greater status
abbrev pub worse : EditOutcome → EditOutcome → EditOutcome
worse one other = if nat_lt (status one) (status other) then other else one

-- a file on which a run stopped with a code could not be edited
abbrev pub of_runs : Outcome → EditOutcome
of_runs runs.Done = Done
of_runs runs.Coded = Failed
of_runs runs.Refused = Refused

-- the runs on a file came to their end
abbrev pub is_success : Outcome → Bool
is_success runs.Done = true
is_success runs.Coded = false
is_success runs.Refused = false

abbrev pub is_coded : Outcome → Bool
is_coded runs.Coded = true
is_coded runs.Done = false
is_coded runs.Refused = false
