use Rattle.std.proofs.Common.{◌∙◌, ◌++◌, ap, codes}
use Rattle.std.specs.Fmt.{decimal}
use Rattle.teco_verdicts.proofs.Spelling.{by_one}
use Rattle.teco_verdicts.specs.Json.{refusal_by}
use Rattle.teco_verdicts.proofs.objects.refusal_text.Goals as goal

pub returns : goal.returns
returns c = by_one (λ reason. refusal_by c.args.entry c.args.verdict.now reason c.args.remark.now)
    c.refusal_object.result _ _
    (c.as_str.ensures.value ∙ c.in_ok-reason.ensures.ok ∙ ap (λ number. codes "X" ++ decimal number)
    c.number_of-number.ensures) c.refusal_object.ensures
