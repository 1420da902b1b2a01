use Rattle.teco_hosts.proofs.Prelude.{rules}
use Rattle.teco_hosts.proofs.Bytes.{told-opened}
use Rattle.teco_hosts.proofs.mem_host.MemHostHost.open_in.Goals as goal

pub returns-clause-files : goal.returns-clause-files
returns-clause-files c = told-opened c.args.name.now c.args.self.now.told _ (search rules) (search rules)
