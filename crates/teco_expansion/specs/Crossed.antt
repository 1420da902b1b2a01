-- What is crossed on a way, as the definition has it, and by what is kept of it.
use Rattle.std.specs.Prelude.{ℕ, Bool, false, ◌&&◌, ◌||◌, not, nat_le, nat_lt, Option, Some, None, ◌==◌, List}
use Rattle.teco_verifier.specs.expansion.Overlap as model
use Rattle.teco_model.specs.Element.{blank_end}
use Rattle.teco_expansion.specs.declared.overlap.Crossed.{Crossed}
use Rattle.teco_scan.specs.declared.skips.Crossing.{Crossing}

abbrev pub crossed_seen : Crossed → model.Crossed
crossed_seen c = record { begun = c.begun; ended = c.ended }

-- an iteration ends before a place, if it ends
abbrev pub ends_before : Option ℕ → ℕ → Bool
ends_before None to = false
ends_before (Some end) to = nat_lt end to

-- or there or behind it
abbrev pub ends_from : Option ℕ → ℕ → Bool
ends_from None to = false
ends_from (Some end) to = nat_le to end

-- By what a jump crosses, with so many iterations open before it: the innermost that is open where it begins ends
-- before the place, or of those that are open behind it not as many were open where it began.
abbrev pub crosses : Crossing → ℕ → ℕ → Bool
crosses c starts to =
    (ends_before c.end to && nat_lt 0 starts) || (nat_lt 0 c.depth && not (ends_from c.outer to))

-- a jump leads to a place behind blanks
abbrev pub lands : List ℕ → Option ℕ → ℕ → Bool
lands text None to = false
lands text (Some place) to = blank_end text place == to
