use Rattle.teco_verdicts.proofs.Answering.{of_no_library}
use Rattle.teco_verdicts.specs.Methods.{ChecksBy}
use Rattle.teco_verdicts.proofs.checking.check_source.Goals as goal

pub returns-in-Err : goal.returns-in-Err
returns-in-Err g c = of_no_library
    (λ library. ChecksBy c.args.method c.args.claim.now.bytes.items library c.args.entry) c.args.source _ _
    c.in-Err.refusal c.refuse.result c.in-Err.ensures.none c.refuse.ensures.outcome c.refuse.ensures.line
