use Rattle.teco_apply.proofs.Prelude.{inr, refl, closing, by_string}
use Rattle.teco_apply.proofs.stages.close.Goals as goal

pub returns-clause-touches : goal.returns-clause-touches
returns-clause-touches g c = λ call.
    by_string closing c.args.machine.now c.answer_text.new.machine (g.H.Host.files c.args.host.now)
    (g.H.Host.files c.answer_text.new.host) (inr (inr (inr refl))) c.answer_text.ensures.touches
