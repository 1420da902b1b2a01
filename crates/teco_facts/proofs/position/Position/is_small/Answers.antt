use Rattle.teco_facts.proofs.Prelude.{sym, subst, Position, AreSmall}
use Rattle.teco_facts.proofs.position.Position.is_small.Goals as goal

pub returns-clause-no : goal.returns-clause-no
returns-clause-no c = λ small.
    c.are_small.ensures.no (subst (λ (p : Position). AreSmall p.falls) (sym c.self.view_is) small)
