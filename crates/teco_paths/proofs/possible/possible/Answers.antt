use Rattle.teco_paths.proofs.Prelude.{subst, arith, OnTrue, AreSifted, IsImpossible}
use Rattle.teco_paths.proofs.Sifting.{one_found, one_less, sifted_last}
use Rattle.teco_paths.proofs.possible.possible.Goals as goal
use Rattle.teco_paths.proofs.possible.possible.Goals.{then-not-is_none+in_ok-push, else-not-is_none}

pub returns-in_default : goal.returns-in_default
returns-in_default c =
    sifted_last c.args.cases.items c.cases.rest.items c.cases.found.items
    (omega (arith, c.in_default.ensures.cases.0)) c.cases.invariant

pub cases-preserved : goal.cases-preserved
cases-preserved c =
    let left =
    subst (λ xs. AreSifted c.args.cases.items xs c.cases.found.items) c.in-Some.ensures.items c.cases.invariant in
    elim c.if-not-is_none.branch [
      | then-not-is_none+in_ok-push w ↦
          rw w.found-is (rw w.in_ok-push.ensures.items
          (one_found c.args.cases.items c.pop.new.self.items c.in-Some.case c.cases.found.items left))
      | else-not-is_none w ↦
          rw w.found-is
          (one_less c.args.cases.items c.pop.new.self.items c.in-Some.case c.cases.found.items left
          (subst (λ b. OnTrue b (IsImpossible c.in-Some.case)) w.if-not-is_none.false c.in_ok-is_none.ensures))
    ]
