use Rattle.teco_verify.proofs.Prelude.{◌<◌}
use Rattle.teco_verify.proofs.search.NodePass.pass_all.Given as goal

abbrev pub invariant-loop : goal.invariant-loop
invariant-loop l = 0 < l.number
