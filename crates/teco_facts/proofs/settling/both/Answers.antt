use Rattle.teco_facts.proofs.Settles.{settles_none, settles_both}
use Rattle.teco_facts.proofs.settling.both.Goals as goal

pub returns-in-None : goal.returns-in-None
returns-in-None c = rw c.in-None.is (settles_none c.args.earlier)

pub returns-in-Some : goal.returns-in-Some
returns-in-Some c = rw c.in-Some.is
    (settles_both c.args.earlier c.in-Some.later c.settled_again.result c.settled_again.ensures)
