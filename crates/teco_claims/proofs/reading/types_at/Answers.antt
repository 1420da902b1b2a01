use Rattle.teco_claims.proofs.Typed.{types_dash}
use Rattle.teco_claims.proofs.reading.types_at.Goals as goal

pub returns-then-found : goal.returns-then-found
returns-then-found c = λ types rest is e.
    types_dash types rest c.args.text.now c.word_at-found.result.1.now c.word_at-found.result.0
    c.word_at-found.ensures.word c.if-found.true is e
