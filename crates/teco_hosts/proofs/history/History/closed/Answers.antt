use Rattle.teco_hosts.proofs.Prelude.{rules, closed}
use Rattle.teco_hosts.proofs.Bytes.{noted}
use Rattle.teco_hosts.proofs.history.History.closed.Goals as goal

pub returns-clause-files : goal.returns-clause-files
returns-clause-files c = noted _ c.args.self.now.events c.then.result.events closed (search rules) tt (λ f g h. h)
