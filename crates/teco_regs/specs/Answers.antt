-- When a call on the registers answers what. Each word takes the call's answer first, and has for each answer the
-- fact that holds where it comes. The facts of two answers exclude each other, but for those of `Ok` and `Memory`.
-- `Empty` and `Full` come exactly where their facts hold, and `Memory` nowhere but where its fact holds.
use Rattle.std.specs.Prelude.{ℕ, ◌≡◌, ◌≢◌, ◌<◌, ◌≤◌, ⊤, List, [], Result, Ok, Err}
use Rattle.teco_base.specs.declared.TheConstants.{LIMIT}
use Rattle.teco_regs.specs.declared.fault.RegFault.{RegFault}
use Rattle.teco_regs.specs.declared.fault.RegFault.TheVariants.{Empty, Full, Memory}

-- of a call that makes a text of n characters where room for some is there
abbrev pub OkWithin : {X : Type 0} → Result X RegFault → ℕ → ℕ → Type 0
OkWithin (Ok _) n room = n ≤ LIMIT
OkWithin (Err Empty) n room = ⊥
OkWithin (Err Full) n room = LIMIT < n
OkWithin (Err Memory) n room = (n ≤ LIMIT) × (room < n)

-- of a call that needs a non-empty list, and no memory
abbrev pub OkWhereNonEmpty : {X Y : Type 0} → Result X RegFault → List Y → Type 0
OkWhereNonEmpty (Ok _) list = list ≢ []
OkWhereNonEmpty (Err Empty) list = list ≡ []
OkWhereNonEmpty (Err Full) list = ⊥
OkWhereNonEmpty (Err Memory) list = ⊥

-- of a call that fails by memory alone
abbrev pub OkUnlessMemory : {X : Type 0} → Result X RegFault → Type 0
OkUnlessMemory (Ok _) = ⊤
OkUnlessMemory (Err Empty) = ⊥
OkUnlessMemory (Err Full) = ⊥
OkUnlessMemory (Err Memory) = ⊤
