use Rattle.teco_hosts.proofs.Prelude.{rules, opened_output}
use Rattle.teco_hosts.proofs.Bytes.{noted}
use Rattle.teco_hosts.proofs.history.History.opened_output.Goals as goal

pub returns-clause-files : goal.returns-clause-files
returns-clause-files c = noted _ c.args.self.now.events c.then.result.events (opened_output c.args.name.now)
    (search rules) tt (λ f g h. h)
