use Rattle.teco_search_outcomes.proofs.Prelude.{None, refl, IfOk-weaker}
use Rattle.teco_search_outcomes.proofs.Paging.{writes_buffer}
use Rattle.teco_search_outcomes.proofs.pages.write_one.Goals as goal

pub returns : goal.returns
returns c =
    IfOk-weaker c.one.result _ _
    (λ all one. writes_buffer c.args.case.now c.in_ok-after.after _ all (c.in_ok-after.ensures None refl) one)
    c.one.ensures
