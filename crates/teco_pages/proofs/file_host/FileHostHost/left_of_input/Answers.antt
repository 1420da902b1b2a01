use Rattle.teco_pages.proofs.Following.{still_measured}
use Rattle.teco_pages.proofs.file_host.FileHostHost.left_of_input.Goals as goal

pub invariant_of-self-clause-noted : goal.invariant_of-self-clause-noted
invariant_of-self-clause-noted g c =
    still_measured c.args.self.now.calls.history.events c.measured.new.self.events c.in_ok-left.left
    c.args.self.now.texts c.measured.ensures.noted c.args.self.now.noted
