use Rattle.std.proofs.Common.{◌≡◌, take}
use Rattle.teco_examples.specs.Examples.{AllHold}
use Rattle.teco_examples.proofs.testing.Trial.try_all.Given as goal

abbrev pub invariant-loop-finding : goal.invariant-loop-finding
invariant-loop-finding g l =
    l.tally.failed ≡ 0
    → AllHold l.self.sourced.now.library l.self.tests.now.case l.self.tests.now.entry
    (take l.finding-index l.self.notes.now)
