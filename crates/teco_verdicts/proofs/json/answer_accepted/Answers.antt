use Rattle.teco_verdicts.proofs.Stating.{of_accepted}
use Rattle.teco_verdicts.proofs.json.answer_accepted.Goals as goal

pub returns : goal.returns
returns g c = of_accepted _ _ _ _ _ c.args.accepted.now c.deref.result.now c.print.result c.requires.is
    c.is_proved.ensures c.requires.among
    (rw c.deref.ensures.value (rw c.promise.ensures at c.in_ok-object.ensures)) c.print.ensures.outcome
    c.print.ensures.object
