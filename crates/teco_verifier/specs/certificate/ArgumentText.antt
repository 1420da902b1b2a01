-- How the arguments that an entry may be declared to take are written.
use Rattle.std.specs.Prelude.{ℕ, List, ◌++◌, codes}
use Rattle.std.specs.Fmt.{decimal}
use Rattle.teco_model.specs.Macros.{ArgumentRange}

-- the least and the greatest, a space between
abbrev pub range_text : ArgumentRange → List ℕ
range_text range = decimal range.low ++ (codes " " ++ decimal range.high)
