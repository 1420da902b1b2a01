use Rattle.std.proofs.Common.{◌≡◌, drop}
use Rattle.teco_claimed.specs.Checksum.{is_run}
use Rattle.teco_claimed.proofs.checksum.is_run.Given as goal

-- the nodes before this one stand elsewhere
abbrev pub invariant-loop-before : goal.invariant-loop-before
invariant-loop-before l = is_run (drop l.before l.nodes) l.place ≡ is_run l.nodes l.place
