use Rattle.teco_claims.proofs.Typed.{grows_missing}
use Rattle.teco_claims.proofs.reading.grows_at.Goals as goal

pub returns-then-not-found : goal.returns-then-not-found
returns-then-not-found c = λ grows rest is e.
    grows_missing grows rest c.args.text.now c.word_at-found.result.1.now c.word_at-found.result.0
    c.word_at-found.ensures.word c.if-not-found.true e
