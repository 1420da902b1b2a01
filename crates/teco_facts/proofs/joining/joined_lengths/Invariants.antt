use Rattle.teco_facts.proofs.Prelude.{joined_lengths}
use Rattle.teco_facts.proofs.Joins.{AreJoined}
use Rattle.teco_facts.proofs.joining.joined_lengths.Given as goal

-- the registers before this one are done
abbrev pub invariant-loop-register : goal.invariant-loop-register
invariant-loop-register l = AreJoined joined_lengths l.one l.two l.joined l.register
