use Rattle.teco_verdicts.proofs.Stating.{of_no_library}
use Rattle.teco_verdicts.specs.Json.{ObjectBy}
use Rattle.teco_verdicts.proofs.json.answer_macro.Goals as goal

pub returns-in-Err : goal.returns-in-Err
returns-in-Err g c = of_no_library (λ library. ObjectBy c.args.method library c.args.entry) c.args.source _ _
    c.answer_no_library.result c.answer_no_library.ensures
