use Rattle.teco_facts.proofs.Settles.{settles_first, settles_more}
use Rattle.teco_facts.proofs.settling.settled_again.Goals as goal

pub returns-in-None : goal.returns-in-None
returns-in-None c = rw c.in-None.is (settles_first c.args.margins c.args.ends)

pub returns-in-Some : goal.returns-in-Some
returns-in-Some c =
    rw c.in-Some.is (settles_more c.in-Some.earlier c.args.margins c.args.ends c.either.result c.either.ensures)
