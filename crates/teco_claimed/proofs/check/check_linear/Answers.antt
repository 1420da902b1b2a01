use Rattle.teco_claimed.proofs.Promised.{found_text}
use Rattle.teco_claimed.proofs.check.check_linear.Goals as goal

pub returns-clause-text : goal.returns-clause-text
returns-clause-text c =
    found_text c.checked.result c.in_ok-certificate.certificate c.args.bytes.now c.checked.ensures.certificate
    c.in_ok-certificate.ensures.is
