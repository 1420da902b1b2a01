use Rattle.teco_verdicts.proofs.Stating.{of_no_library}
use Rattle.teco_verdicts.specs.Json.{CheckObjectBy}
use Rattle.teco_verdicts.proofs.json.check_source.Goals as goal

pub returns-in-Err : goal.returns-in-Err
returns-in-Err g c = of_no_library
    (λ library. CheckObjectBy c.args.method c.args.claim.now.bytes.items library c.args.entry) c.args.source _ _
    c.answer_no_library.result c.answer_no_library.ensures
