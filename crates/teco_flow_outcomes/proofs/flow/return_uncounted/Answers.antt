use Rattle.teco_flow_outcomes.proofs.Prelude.{[], sym, subst, inl, IsInOne}
use Rattle.teco_flow_outcomes.proofs.Branching.{returns_uncounted}
use Rattle.teco_flow_outcomes.proofs.flow.return_uncounted.Goals as goal

pub returns : goal.returns
returns c =
    returns_uncounted c.args.case.now c.only.result [] _ _ (λ x. subst (λ r. IsInOne r x) (sym c.only.ensures) (inl tt))
    c.in_ok-away.ensures
