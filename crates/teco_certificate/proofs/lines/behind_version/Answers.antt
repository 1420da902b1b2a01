use Rattle.teco_certificate.proofs.Prelude.{◌++◌, ◌∷◌, LF, version_text}
use Rattle.teco_certificate.proofs.Spelling.{version_read}
use Rattle.teco_certificate.proofs.lines.behind_version.Goals as goal

pub returns : goal.returns
returns c = λ argument rest e.
    let begin = c.behind-version.ensures.word.1.there (version_text argument ++ LF ∷ rest) e in
    version_read c.behind-version.result.now c.behind-rest.result.now c.behind.result.now c.behind-rest.ensures.word.0
    c.behind.ensures.word.0 argument rest c.behind-rest.ensures.word.1 c.behind.ensures.word.1 begin.1
