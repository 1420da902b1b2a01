use Rattle.teco_hosts.proofs.Prelude.{rules, ◌≡◌, ◌<◌, ◌++◌, length, drop}
use Rattle.teco_hosts.proofs.Named.{reads-more}
use Rattle.teco_hosts.proofs.test_host.TestHostHost.read.Goals as goal

pub returns-clause-files : goal.returns-clause-files
returns-clause-files c =
    let rest = drop c.min-n.result c.args.buf.now in
    let some : 0 < length (c.read.new.buf ++ rest) → 0 < length c.read.new.buf = search rules in
    let mem : c.self.inside.mem ≡ c.args.self.now.mem = search rules in
    rw (← mem) (reads-more c.read.new.buf rest c.read.result _ _ some c.read.ensures.bound c.read.ensures.files)
