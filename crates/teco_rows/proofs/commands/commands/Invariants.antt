use Rattle.teco_rows.proofs.Prelude.{take, AreCommanded}
use Rattle.teco_rows.proofs.commands.commands.Given as goal

-- the ways before this one are gone
abbrev pub invariant-loop-way : goal.invariant-loop-way
invariant-loop-way l = AreCommanded l.case (take l.way-index l.ways) l.given l.here l.cases.items
