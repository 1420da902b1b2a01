use Rattle.teco_flow_outcomes.proofs.Prelude.{sym, ◌∙◌}
use Rattle.teco_flow_outcomes.proofs.Branching.{goes_to}
use Rattle.teco_flow_outcomes.proofs.flow.go_to.Goals as goal

pub returns : goal.returns
returns c =
    goes_to c.args.case.now c.in_ok-taken.taken _ c.in_ok-taken.ensures (sym c.is_some.ensures ∙ c.if-is_some.false)
    c.in_ok-away.ensures
