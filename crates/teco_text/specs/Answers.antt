-- When a call on a text answers what. Each word takes the call's answer first, and has for each answer the fact
-- that holds where it comes. The facts of two answers exclude each other, but for those of `Ok` and `Memory`. So
-- `Off` and `Full` come exactly where their facts hold, and `Memory` nowhere but where its fact holds.
use Rattle.std.specs.Prelude.{ℕ, ◌<◌, ◌≤◌, List, length, Result, Ok, Err}
use Rattle.teco_base.specs.declared.TheConstants.{LIMIT}
use Rattle.teco_text.specs.declared.fault.TextFault.{TextFault}
use Rattle.teco_text.specs.declared.fault.TextFault.TheVariants.{Off, Full, Memory}

-- the places a and b bound a part of the text
abbrev pub IsPart : List ℕ → ℕ → ℕ → Type 0
IsPart text a b = (a ≤ b) × (b ≤ length text)

-- of a call that needs no memory: it is done exactly where its places are good, and else answers `Off`
abbrev pub OkWhere : {X : Type 0} → Result X TextFault → Type 0 → Type 0
OkWhere (Ok _) good = good
OkWhere (Err Off) good = ¬ good
OkWhere (Err Full) good = ⊥
OkWhere (Err Memory) good = ⊥

-- of a call that needs room for n characters and names no place: it fits where n is at most LIMIT
abbrev pub OkWithin : {X : Type 0} → Result X TextFault → ℕ → ℕ → Type 0
OkWithin (Ok _) n room = n ≤ LIMIT
OkWithin (Err Off) n room = ⊥
OkWithin (Err Full) n room = LIMIT < n
OkWithin (Err Memory) n room = (n ≤ LIMIT) × (room < n)

-- of a call that needs good places, and room for n characters: a bad place is told before a text that is too long
abbrev pub OkWhereWithin : {X : Type 0} → Result X TextFault → Type 0 → ℕ → ℕ → Type 0
OkWhereWithin (Ok _) good n room = good × (n ≤ LIMIT)
OkWhereWithin (Err Off) good n room = ¬ good
OkWhereWithin (Err Full) good n room = good × (LIMIT < n)
OkWhereWithin (Err Memory) good n room = good × (n ≤ LIMIT) × (room < n)

-- of a call that needs good places, and adds n characters to a vector with this much room to spare
abbrev pub OkWhereSpare : {X : Type 0} → Result X TextFault → Type 0 → ℕ → ℕ → Type 0
OkWhereSpare (Ok _) good n spare = good
OkWhereSpare (Err Off) good n spare = ¬ good
OkWhereSpare (Err Full) good n spare = ⊥
OkWhereSpare (Err Memory) good n spare = good × (spare < n)
