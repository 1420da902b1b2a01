use Rattle.teco_claims.proofs.Terms.{first_read}
use Rattle.teco_claims.proofs.reading.first_at.Goals as goal

pub returns-clause-text : goal.returns-clause-text
returns-clause-text c = λ t rest is ends e.
    let read =
    first_read t rest c.args.text.now c.word_at-is_negative.result.1.now c.word_at-is_negative.result.0
    c.word_at-is_negative.ensures.word is ends e in
    c.term_at.ensures.text t rest is ends read.0 read.1
