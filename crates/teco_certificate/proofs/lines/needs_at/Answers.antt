use Rattle.teco_certificate.proofs.Spelling.{needs_read}
use Rattle.teco_certificate.proofs.lines.needs_at.Goals as goal

pub returns : goal.returns
returns c = λ needs rest e.
    needs_read c.args.text.now c.word_at-input.result.1.now c.word_at-output.result.1.now c.behind.result.now rest
    c.word_at-input.result.0 c.word_at-output.result.0 c.behind.ensures.word.0
    c.word_at-input.ensures.word c.word_at-output.ensures.word c.behind.ensures.word.1 needs e
