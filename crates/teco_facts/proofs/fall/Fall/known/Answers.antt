use Rattle.teco_facts.proofs.Prelude.{sym, arith, ints}
use Rattle.teco_facts.proofs.Least.{none_known}
use Rattle.teco_facts.proofs.fall.Fall.known.Goals as goal

pub returns-else-self-gt-UNKNOWN : goal.returns-else-self-gt-UNKNOWN
returns-else-self-gt-UNKNOWN c =
    rw (← c.self.view_is) (sym (none_known c.self.inside.least (omega (arith, ints, c.if-self-gt-UNKNOWN.false))))
