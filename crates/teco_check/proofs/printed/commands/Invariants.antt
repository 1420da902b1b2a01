use Rattle.teco_check.proofs.Prelude.{◌≡◌, suc, drop, commands, count_from, AreRounds}
use Rattle.teco_check.proofs.printed.commands.Given as goal

-- the nodes before this one are counted
abbrev pub invariant-loop-at : goal.invariant-loop-at
invariant-loop-at l = record {
  counted : commands l.fn.argument l.nodes l.table ≡ count_from l.table (suc l.at) (drop l.at l.nodes) l.total;
  rounds : AreRounds l.nodes l.table l.rounds;
}
