use Rattle.teco_verify.proofs.Prelude.{◌∙◌}
use Rattle.teco_verify.proofs.verdict.found_again.Goals as goal

pub returns-in-Ok-read-clause-again : goal.returns-in-Ok-read-clause-again
returns-in-Ok-read-clause-again c = λ again.
    c.found_from.ensures.again c.args.first.now.fields (again c.in-Ok.ensures.parts)
    (c.deref-in-Ok-read.ensures.value ∙ c.in-Ok.ensures.text)
