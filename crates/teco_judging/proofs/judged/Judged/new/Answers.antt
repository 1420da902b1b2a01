use Rattle.std.proofs.Common.{◌++◌, ap, true}
use Rattle.teco_hosts.specs.HostFiles.{Notes}
use Rattle.teco_pages.proofs.Policies.{new_met}
use Rattle.teco_judging.proofs.judged.Judged.new.Goals as goal

pub invariant_of-result-clause-met : goal.invariant_of-result-clause-met
invariant_of-result-clause-met g c =
    new_met (c.args.asked.now ++ c.new.result.items) true c.new-4.result.events (ap Notes c.new-4.ensures)
