use Rattle.teco_pages.proofs.Following.{still_dropped}
use Rattle.teco_pages.proofs.file_host.FileHostHost.drop_out.Goals as goal

pub invariant_of-self-clause-noted : goal.invariant_of-self-clause-noted
invariant_of-self-clause-noted g c =
    still_dropped c.args.self.now.calls.history.events c.dropped.new.self.events c.args.self.now.texts
    c.dropped.ensures.noted c.args.self.now.noted
