use Rattle.teco_find.proofs.Prelude.{joined}
use Rattle.teco_find.proofs.Needled.{needle_rests}
use Rattle.teco_find.proofs.pattern.Pattern.literals_rest.Goals as goal

pub returns-clause-value : goal.returns-clause-value
returns-clause-value c =
    let needle = c.in_ok-needle.needle.now in
    let are = c.in_ok-needle.ensures in
    needle_rests c.args.self.now needle (joined c.args.text) are.begin are.all c.literals_rest.result
    (rw c.needle.ensures at c.literals_rest.ensures.value)
