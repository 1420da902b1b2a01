use Rattle.teco_hosts.proofs.Prelude.{rules, opened_input}
use Rattle.teco_hosts.proofs.Bytes.{noted}
use Rattle.teco_hosts.proofs.history.History.opened_input.Goals as goal

pub returns-clause-files : goal.returns-clause-files
returns-clause-files c = noted _ c.args.self.now.events c.then.result.events (opened_input c.args.name.now)
    (search rules) tt (λ f g h. h)
