-- The macros of a library, by the names of registers.
use Rattle.std.specs.Prelude.{ℕ, List, Option, Some, None, is_some, option_and_then, slice_index_or, if◌then◌else◌}
use Rattle.teco_base.specs.Register.{register_of}

-- the register, if a library gives it a text
abbrev pub if_set : List (Option (List ℕ)) → ℕ → Option ℕ
if_set texts register = if is_some (slice_index_or texts register None) then Some register else None

-- the register of a name, if a library gives it a text
abbrev pub macro_named : List (Option (List ℕ)) → ℕ → Option ℕ
macro_named texts name = option_and_then (if_set texts) (register_of name)
