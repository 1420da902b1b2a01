use Rattle.std.proofs.Common.{◌∙◌, sym}
use Rattle.teco_verdicts.proofs.Stating.{of_refused}
use Rattle.teco_verdicts.proofs.json.answer_refused.Goals as goal

pub returns : goal.returns
returns g c = of_refused _ _ _ _ _ c.args.unaccepted.now.refusal c.in-Some.verdict c.remark_on-remark.result
    c.deref.result.now c.print.result c.requires (sym c.in-Some.ensures)
    (c.deref.ensures.value ∙ c.in_ok-object.ensures) c.print.ensures.outcome c.print.ensures.object
