use Rattle.teco_claims.proofs.Terms.{next_read}
use Rattle.teco_claims.proofs.reading.next_at.Goals as goal

pub returns-clause-text : goal.returns-clause-text
returns-clause-text c = λ t rest is ends e.
    let read =
    next_read t rest c.args.text.now c.word_at-is_negative.result.1.now c.behind.result.now
    c.word_at-is_negative.result.0 c.behind.ensures.word.0 c.word_at-is_negative.ensures.word c.behind.ensures.word.1 is
    ends e in
    c.term_at.ensures.text t rest is ends read.0 read.1
