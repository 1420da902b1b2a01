use Rattle.teco_linear.proofs.Values.{value-push}
use Rattle.teco_linear.proofs.terms.push.Goals as goal

pub returns-clause-value : goal.returns-clause-value
returns-clause-value c n v =
    value-push c.args.sum.now.items c.push.new.self.items c.args.term n v c.in_ok-push.ensures.items
