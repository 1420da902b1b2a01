use Rattle.teco_verdicts.proofs.Answering.{of_no_library}
use Rattle.teco_verdicts.specs.Methods.{VerdictBy}
use Rattle.teco_verdicts.proofs.verifying.verify_source.Goals as goal

pub returns-in-Err : goal.returns-in-Err
returns-in-Err g c = of_no_library (λ library. VerdictBy c.args.method library c.args.entry) c.args.source.now _ _
    c.in-Err.refusal c.refuse.result c.in-Err.ensures.none c.refuse.ensures.outcome c.refuse.ensures.line
