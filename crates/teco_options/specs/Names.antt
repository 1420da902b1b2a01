-- Where the names of files stand.
use Rattle.std.specs.Prelude.{ℕ, Bool, true, false, nat_lt}
use Rattle.teco_options.specs.declared.editing.Naming.{Naming}
use Rattle.teco_options.specs.declared.editing.Naming.TheVariants.{Several, Always, Never}

-- whether names stand before what is typed where so many files are edited
abbrev pub are_named : Naming → ℕ → Bool
are_named Several files = nat_lt 1 files
are_named Always files = true
are_named Never files = false
