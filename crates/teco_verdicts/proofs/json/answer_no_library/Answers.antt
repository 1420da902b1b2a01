use Rattle.std.proofs.Common.{◌∙◌, sym}
use Rattle.teco_verdicts.proofs.Stating.{of_none_read}
use Rattle.teco_verdicts.proofs.json.answer_no_library.Goals as goal

pub returns : goal.returns
returns g c = of_none_read c.args.source.now _ _ c.args.refusal.now c.in-Some.verdict c.remark_of-remark.result
    c.deref.result.now c.print.result c.requires (sym c.in-Some.ensures)
    (c.deref.ensures.value ∙ c.in_ok-object.ensures) c.print.ensures.outcome c.print.ensures.object
