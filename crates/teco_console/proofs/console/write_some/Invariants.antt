use Rattle.std.specs.Io.KnownBytes.{Keeps}
use Rattle.teco_console.proofs.console.write_some.Given as goal

-- a write that is interrupted writes nothing
abbrev pub invariant-loop : goal.invariant-loop
invariant-loop g l = Keeps (g.W.Write.contents l.initial.writer) (g.W.Write.contents l.writer)
