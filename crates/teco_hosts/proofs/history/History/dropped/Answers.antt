use Rattle.teco_hosts.proofs.Prelude.{rules, dropped}
use Rattle.teco_hosts.proofs.Bytes.{noted}
use Rattle.teco_hosts.proofs.history.History.dropped.Goals as goal

pub returns-clause-files : goal.returns-clause-files
returns-clause-files c = noted _ c.args.self.now.events c.then.result.events dropped (search rules) tt (λ f g h. h)
