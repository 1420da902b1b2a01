use Rattle.teco_search_outcomes.proofs.Prelude.{◌∙◌, IfOk-weaker}
use Rattle.teco_search_outcomes.proofs.Looking.{more_here, more_later}
use Rattle.teco_search_outcomes.proofs.page_searches.page_outcomes.Goals as goal

pub returns : goal.returns
returns c =
    let found = c.args.found in
    let gone = c.args.begun.gone in
    let all = c.in_ok-all.all in
    let done = c.in_ok-all.ensures in
    IfOk-weaker c.with_later.result _ _
    (λ more has. record {
      conditions = has.conditions ∙ done.conditions;
      guarded = has.guarded ∙ done.guarded;
      here = more_here c.args.answers found.later found.here gone all more has done.ends;
      later = more_later c.args.answers found.later found.here gone all more has done.ends;
    })
    c.with_later.ensures
