use Rattle.teco_paths.proofs.Prelude.{All, ArgumentRange, IsEntryClaim}
use Rattle.std.specs.Prelude.{Option}
use Rattle.teco_paths.proofs.entry.length_claims.Given as goal

-- all hold at the entry
abbrev pub invariant-loop-register : goal.invariant-loop-register
invariant-loop-register l =
    (argument : Option ArgumentRange) → All (IsEntryClaim l.lengths argument) l.claims.items
