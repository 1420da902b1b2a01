use Rattle.std.proofs.Common.{take}
use Rattle.teco_verdicts.specs.Each.{AnswersEach}
use Rattle.teco_verdicts.specs.Json.{ObjectBy}
use Rattle.teco_verdicts.proofs.library_json.answer_each.Given as goal

-- as many names as turns were answered
abbrev pub invariant-loop-name : goal.invariant-loop-name
invariant-loop-name g l =
    AnswersEach (ObjectBy l.sourced.method l.sourced.library) l.sourced.library.texts
    (g.O.Write.contents l.fn.console.out) (take l.name-index l.name-items) (g.O.Write.contents l.console.out) l.outcome
