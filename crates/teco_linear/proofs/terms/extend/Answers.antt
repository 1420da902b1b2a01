use Rattle.teco_linear.proofs.Prelude.{ap, ◌∙◌, value}
use Rattle.teco_linear.proofs.Values.{value-append}
use Rattle.teco_linear.proofs.terms.extend.Goals as goal

pub returns-clause-value : goal.returns-clause-value
returns-clause-value c n v =
    ap (λ f. value f n v) c.in_ok-extend_from_slice.ensures.items
    ∙ value-append c.args.sum.now.items c.args.terms.now n v
