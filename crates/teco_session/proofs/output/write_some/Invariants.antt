use Rattle.teco_session.proofs.Prelude.{Keeps}
use Rattle.teco_session.proofs.output.write_some.Given as goal

-- a write that is interrupted writes nothing
abbrev pub invariant-loop : goal.invariant-loop
invariant-loop g l = Keeps (g.W.Write.contents l.initial.writer) (g.W.Write.contents l.writer)
