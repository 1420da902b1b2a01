use Rattle.teco_hosts.proofs.Prelude.{rules}
use Rattle.teco_hosts.proofs.Bytes.{told-closed}
use Rattle.teco_hosts.proofs.mem_host.MemHostHost.close_out.Goals as goal

pub returns-in-Ok-clause-files : goal.returns-in-Ok-clause-files
returns-in-Ok-clause-files c = told-closed c.args.self.now.told _ (search rules)
