-- What comes of a word of the program, and of several things that it does.
use Rattle.std.specs.Prelude.{ℕ, nat_lt, if◌then◌else◌}
use Rattle.teco_console.specs.declared.outcome.Outcome.{Outcome}
use Rattle.teco_console.specs.declared.outcome.Outcome.TheVariants.{Done, Coded, Refused}

-- what the program ends with
abbrev pub status : Outcome → ℕ
status Done = 0
status Coded = 1
status Refused = 3

-- of two, the one of the greater status
abbrev pub worse : Outcome → Outcome → Outcome
worse one other = if nat_lt (status one) (status other) then other else one
