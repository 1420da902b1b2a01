use Rattle.teco_policy.proofs.Lasts.{behind_last}
use Rattle.teco_policy.proofs.lines.last_start.Goals as goal

pub returns-in-Some-clause-last : goal.returns-in-Some-clause-last
returns-in-Some-clause-last c = behind_last c.args.text.now c.requires c.in-Some.place c.in-Some.ensures
