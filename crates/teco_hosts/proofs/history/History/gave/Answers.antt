use Rattle.teco_hosts.proofs.Prelude.{rules, take, gave}
use Rattle.teco_hosts.proofs.Bytes.{noted}
use Rattle.teco_hosts.proofs.history.History.gave.Goals as goal

pub returns-else-n-eq0-clause-bytes : goal.returns-else-n-eq0-clause-bytes
returns-else-n-eq0-clause-bytes c =
    noted _ c.args.self.now.events c.then-else-n-eq0.result.events (gave (take c.args.n c.args.buf.now))
    (search rules) c.are_bytes.ensures (λ f g h. h)
