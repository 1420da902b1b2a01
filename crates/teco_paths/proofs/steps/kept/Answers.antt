use Rattle.teco_paths.proofs.Prelude.{subst, arith, AreLeft}
use Rattle.teco_paths.proofs.Keeping.{left_none, one_kept}
use Rattle.teco_paths.proofs.steps.kept.Goals as goal

pub returns-in_default : goal.returns-in_default
returns-in_default c =
    left_none c.args.nodes.now c.args.number c.args.is_away c.args.cases.items c.cases.rest.items c.cases.spots.items
    (omega (arith, c.in_default.ensures.cases.0)) c.cases.invariant

pub cases-preserved : goal.cases-preserved
cases-preserved c =
    let left =
    subst (λ xs. AreLeft c.args.nodes.now c.args.number c.args.is_away c.args.cases.items xs c.cases.spots.items)
    c.in-Some.ensures.items c.cases.invariant in
    rw c.in_ok-push.ensures.items
    (one_kept c.args.nodes.now c.args.number c.args.is_away c.args.cases.items c.pop.new.self.items c.in-Some.case
    c.cases.spots.items left c.in_ok-number.number c.in_ok-number.ensures)
